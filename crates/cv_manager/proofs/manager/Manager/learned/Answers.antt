use Rattle.std.proofs.Common.{◌≡◌, subst}
use Rattle.std.specs.Prelude.{IfOk}
use Rattle.cv_histories.specs.Seen.{learned_of, observed}
use Rattle.cv_manager.specs.ManagerOf.{ManagerOf, seen_in}
use Rattle.cv_runs.specs.Learned.{learned}
use Rattle.cv_manager.proofs.manager.Manager.learned.Goals as goal

pub returns : goal.returns
returns c =
    let k = c.self.inside.kept in
    let said = c.learned.ensures (observed k.plan k.journal) c.self.invariant.learned in
    let of_text = subst (λ t. IfOk c.learned.result (λ list. list ≡ learned t (observed k.plan k.journal))) c.self.invariant.summary said in
    let of_seen = subst (λ s. IfOk c.learned.result (λ list. list ≡ learned_of k.plan s)) c.self.invariant.seen of_text in
    subst (λ (m : ManagerOf). IfOk c.learned.result (λ list. list ≡ learned_of m.plan (seen_in m))) c.self.view_is of_seen
