use Rattle.std.proofs.Common.{◌≡◌, ◌+◌, ◌-◌, ◌≤◌, length, take, vec_len, vec_capacity}
use Rattle.cv_patch.specs.Counts.{TallyRises}
use Rattle.cv_patch.specs.Prepared.{with_tallies}
use Rattle.cv_patch.proofs.tally.add_all.Given as goal

abbrev pub invariant-loop-patch : goal.invariant-loop-patch
invariant-loop-patch l = record {
  done : l.rows.items ≡ with_tallies (take l.patch-index l.patches) l.initial.rows.items;
  rises : TallyRises l.rows.items;
  room : vec_len l.rows + (length l.patches - l.patch-index) ≤ vec_capacity l.rows;
}
