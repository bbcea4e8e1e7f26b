use Rattle.std.proofs.Common.{◌∙◌, sym, ap, length}
use Rattle.cv_histories.specs.Installed.{again}
use Rattle.cv_manager.proofs.Deciding.{decides_still}
use Rattle.cv_manager.proofs.Stays.{repairs_stay}
use Rattle.cv_manager.proofs.decided.Decided.with_entry.Goals as goal

pub returns : goal.returns
returns c =
    let p = c.args.posting.now in
    let n = c.args.number in
    let case = c.args.case.now in
    let repairs = c.as_slice-repairs.ensures ∙ ap (λ d. d.repairs) c.self.view_is in
    let copied = c.in_ok-scores.ensures ∙ ap (λ d. d.scores) c.self.view_is in
    let stands = c.charge.ensures.charged case (rw copied c.requires.scores) in
    let same = repairs ∙ c.requires.repairs ∙ sym (repairs_stay p.plan n case p.new p.past c.requires.decided) in
    decides_still p n case c.args.self.now c.requires _
    (c.in_ok-classes.ensures ∙ c.as_slice.ensures ∙ ap (λ d. d.classes) c.self.view_is)
    (c.in_ok-repairs.ensures ∙ repairs)
    (c.charge.ensures.case ∙ ap (λ k. k.case) copied)
    (c.charge.ensures.repairs ∙ ap (λ k. length k.counts) copied)
    stands
    (c.again-installed.ensures case stands same ∙ ap (λ d. again p.plan n case p.new p.past d.installed) c.self.view_is)
