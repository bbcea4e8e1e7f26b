use Rattle.std.proofs.Common.{◌∙◌, ap}
use Rattle.cv_base.specs.PlanOf.{PlanOf}
use Rattle.cv_audit.proofs.Rounds.{found, passed}
use Rattle.cv_audit.proofs.following.round_of.Goals as goal

pub returns-then-left-inputs : goal.returns-then-left-inputs
returns-then-left-inputs c =
    found c.args.plan.now c.as_slice-round-items.result.now c.args.run c.loop-n.n c.loop-n.left c.round-item.result
    (c.as_slice-round-items.ensures ∙ ap (λ (p : PlanOf). p.rounds) c.plan.view_is)
    c.loop-n-test.true
    c.round-item.is
    c.loop-n.invariant.same
    (rw c.as_slice-inputs.ensures at c.if-left-inputs.true)

pub loop-n-preserved : goal.loop-n-preserved
loop-n-preserved c = record {
  few = c.loop-n.invariant.few;
  same = rw c.as_slice-inputs.ensures
      (passed c.as_slice-round-items.result.now c.args.run c.loop-n.n c.loop-n.left c.round-item.result
      c.loop-n-test.true
      c.round-item.is
      c.loop-n.invariant.same
      (rw c.as_slice-inputs.ensures at c.if-left-inputs.false));
}
