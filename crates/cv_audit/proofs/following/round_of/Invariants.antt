use Rattle.std.proofs.Common.{◌≡◌, ◌≤◌, length, drop}
use Rattle.std.specs.Prelude.{slice_get}
use Rattle.cv_histories.specs.Runs.{runs_from}
use Rattle.cv_audit.proofs.following.round_of.Given as goal

abbrev pub invariant-loop-n : goal.invariant-loop-n
invariant-loop-n l = record {
  few : length l.round-items ≤ 64;
  same : slice_get (runs_from l.n (drop l.n l.round-items)) l.left ≡ slice_get (runs_from 0 l.round-items) l.run;
}
