use Rattle.std.proofs.Common.{◌∙◌, sym}
use Rattle.clearview.proofs.Inferring.{one_more}
use Rattle.clearview.proofs.infer.learn_runs.Goals as goal

pub loop-run-preserved : goal.loop-run-preserved
loop-run-preserved c = record {
  plan = c.loop-run.invariant.plan ∙ sym c.learn_run.ensures.plan;
  text = c.learn_run.ensures.text ∙ c.loop-run.invariant.text;
  seen = one_more c.args.plan.now c.loop-run.run c.loop-run.merged c.learn_run.new.merged c.loop-run.invariant.seen c.in_ok-learn_run.ensures.seen;
}
