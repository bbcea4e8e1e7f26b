use Rattle.std.proofs.Common.{◌<◌, ℕ}
use Rattle.cv_audit.specs.Clauses.{HasRun}
use Rattle.cv_audit.proofs.verdict.missing.Given as goal

abbrev pub invariant-loop-run : goal.invariant-loop-run
invariant-loop-run l = (number : ℕ) → number < l.run → HasRun l.book.past number
