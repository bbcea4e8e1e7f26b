use Rattle.std.proofs.Common.{◌≡◌, drop}
use Rattle.std.specs.Prelude.{slice_get}
use Rattle.cv_histories.specs.Runs.{runs_from}
use Rattle.cv_exec.proofs.plans.run_of.Given as goal

abbrev pub invariant-loop-round : goal.invariant-loop-round
invariant-loop-round l = slice_get (runs_from l.round-index (drop l.round-index l.round-items)) l.left ≡ slice_get (runs_from 0 l.round-items) l.run
