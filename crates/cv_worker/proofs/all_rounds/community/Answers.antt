use Rattle.std.proofs.Common.{◌∙◌, ◌≤◌, length, ap, sym, arith}
use Rattle.cv_base.specs.PlanOf.{PlanOf}
use Rattle.cv_manager.specs.ManagerOf.{ManagerOf}
use Rattle.cv_worker.proofs.Whole.{whole_up_to}
use Rattle.cv_worker.proofs.all_rounds.community.Goals as goal

-- src/all_rounds.rt
pub returns-clause-whole : goal.returns-clause-whole
returns-clause-whole g c =
    let n = c.rounds_of-round-end.ensures in
    let past = c.loop-round-test.false in
    let same = ap (λ (p : PlanOf). length p.rounds) (c.loop-round.invariant.0 ∙ sym (c.plan.ensures ∙ ap (λ (m : ManagerOf). m.plan) c.in_ok-book.ensures)) in
    whole_up_to c.loop-round.book.plan c.loop-round.book.past c.loop-round.round (omega (arith, n, past, same)) c.loop-round.invariant.1
