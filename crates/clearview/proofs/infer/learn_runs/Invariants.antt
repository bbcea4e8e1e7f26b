use Rattle.std.proofs.Common.{◌≡◌, take}
use Rattle.std.specs.List.{flat_map}
use Rattle.cv_blocks.specs.TextMap.{text_only}
use Rattle.cv_histories.specs.OtherTexts.{seen_in_learn_run}
use Rattle.cv_histories.specs.Runs.{runs}
use Rattle.cv_observe.specs.StandsFor.{StandsFor}
use Rattle.clearview.proofs.infer.learn_runs.Given as goal

abbrev pub invariant-loop-run : goal.invariant-loop-run
invariant-loop-run l = record {
  plan : l.plan ≡ l.arena.plan;
  text : l.merged.text ≡ text_only l.plan.image;
  seen : StandsFor l.merged (flat_map (seen_in_learn_run l.plan) (take l.run (runs l.plan)));
}
