use Rattle.std.proofs.Common.{◌≡◌, ℕ, false, take}
use Rattle.std.specs.List.{list_any}
use Rattle.cv_histories.specs.Scores.{is_enforce_of}
use Rattle.cv_manager.proofs.judging.repair_in.Given as goal

abbrev pub invariant-loop-patch : goal.invariant-loop-patch
invariant-loop-patch l = (j : ℕ) → list_any (is_enforce_of l.number j) (take l.patch-index l.table) ≡ false
