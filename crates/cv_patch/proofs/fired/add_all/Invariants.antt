use Rattle.std.proofs.Common.{◌≡◌, ◌+◌, ◌-◌, ◌≤◌, length, take, vec_len, vec_capacity}
use Rattle.cv_patch.specs.Counts.{FiredRises}
use Rattle.cv_patch.specs.Prepared.{with_all_fired}
use Rattle.cv_patch.proofs.fired.add_all.Given as goal

abbrev pub invariant-loop-patch : goal.invariant-loop-patch
invariant-loop-patch l = record {
  done : l.rows.items ≡ with_all_fired (take l.patch-index l.patches) l.initial.rows.items;
  rises : FiredRises l.rows.items;
  room : vec_len l.rows + (length l.patches - l.patch-index) ≤ vec_capacity l.rows;
}
