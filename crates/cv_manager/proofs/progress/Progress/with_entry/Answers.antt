use Rattle.std.proofs.Common.{◌∙◌, ap, arith}
use mir.Val.{bool_byte}
use Rattle.cv_manager.proofs.Progressing.{byte_of_test, checked_more, few_checked, not_decided}
use Rattle.cv_manager.proofs.progress.Progress.with_entry.Goals as goal
use Rattle.cv_manager.proofs.progress.Progress.with_entry.Goals.{in-Some+in_ok-with_entry-in-Some, in-None+in_ok-make-in-None, in-None-2}

pub overflow_add-checked : goal.overflow_add-checked
overflow_add-checked c =
    let p = c.args.posting.now in
    let was = ap (λ q. q.checked) c.self.view_is ∙ c.requires.stands.checked in
    let few = few_checked p.plan c.args.number c.args.case.now p.new p.past in
    let room = c.is_checked.ensures.room in
    omega (arith, byte_of_test c.is_checked.result)

pub returns : goal.returns
returns c =
    let p = c.args.posting.now in
    let n = c.args.number in
    let case = c.args.case.now in
    let was = ap (λ q. q.checked) c.self.view_is ∙ c.requires.stands.checked in
    let checked = checked_more p.plan n case p.new p.past c.self.inside.checked c.from.result was (c.from.ensures ∙ ap bool_byte c.is_checked.ensures.checked) in
    elim c.match-self.branch [
      | in-Some+in_ok-with_entry-in-Some w ↦ record { checked = checked; decided = rw w.decided-is w.in_ok-with_entry-in-Some.ensures }
      | in-None+in_ok-make-in-None w ↦ record { checked = checked; decided = rw w.decided-is w.in_ok-make-in-None.ensures }
      | in-None-2 w ↦ record { checked = checked; decided = rw w.decided-is (not_decided p.plan n case p.new p.past _ _ checked w.checks.ensures w.if-checked-checks.false) }
    ]
