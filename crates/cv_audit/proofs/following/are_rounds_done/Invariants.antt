use Rattle.std.proofs.Common.{◌≡◌, ◌<◌, ℕ, Some}
use Rattle.std.specs.Prelude.{reverse}
use Rattle.cv_histories.specs.Runs.{Run, run_at}
use Rattle.cv_audit.specs.Clauses.{HasRun}
use Rattle.cv_audit.proofs.following.are_rounds_done.Given as goal

abbrev pub invariant-loop-run : goal.invariant-loop-run
invariant-loop-run l = (number : ℕ) (r : Run) → number < l.run → run_at l.plan number ≡ Some r → r.round < l.round → HasRun (reverse l.history) number
