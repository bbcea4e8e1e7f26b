use Rattle.std.proofs.Common.{◌∙◌, ap}
use Rattle.cv_base.specs.PlanOf.{PlanOf}
use Rattle.cv_exec.proofs.Planned.{found, passed}
use Rattle.cv_exec.proofs.plans.run_of.Goals as goal

pub returns-then-left-inputs-clause-found : goal.returns-then-left-inputs-clause-found
returns-then-left-inputs-clause-found c =
    rw c.as_slice.ensures
    (found c.args.plan.now c.as_slice-round-items.result.now c.args.run c.loop-round.round-index c.loop-round.left c.round-item.result c.index-inputs-left.result
    (c.as_slice-round-items.ensures ∙ ap (λ (p : PlanOf). p.rounds) c.plan.view_is)
    c.loop-round-test.true
    c.round-item.is
    c.loop-round.invariant
    (rw c.as_slice-inputs.ensures at c.if-left-inputs.true)
    (rw c.as_slice-inputs.ensures at c.index-inputs-left.is))

pub loop-round-preserved : goal.loop-round-preserved
loop-round-preserved c =
    rw c.as_slice-inputs.ensures
    (passed c.as_slice-round-items.result.now c.args.run c.loop-round.round-index c.loop-round.left c.round-item.result
    c.loop-round-test.true
    c.round-item.is
    c.loop-round.invariant
    (rw c.as_slice-inputs.ensures at c.if-left-inputs.false))
