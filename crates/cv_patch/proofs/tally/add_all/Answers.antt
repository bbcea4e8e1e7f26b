use Rattle.std.proofs.Common.{arith}
use Rattle.std.proofs.lemmas.Grind.{common_steps}
use Rattle.cv_patch.proofs.Tallies.{tally_for_rises}
use Rattle.cv_patch.proofs.tally.add_all.Goals as goal

pub loop-patch-preserved : goal.loop-patch-preserved
loop-patch-preserved c = record {
  done = grind (arith, common_steps);
  rises = rw c.add_for.ensures.items (tally_for_rises c.patch-item.result c.loop-patch.rows.items c.loop-patch.invariant.rises);
  room = omega arith;
}
