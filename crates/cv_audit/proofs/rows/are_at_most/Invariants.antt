use Rattle.std.proofs.Common.{drop}
use Rattle.cv_audit.specs.Clauses.{AreAtMost}
use Rattle.cv_audit.proofs.rows.are_at_most.Given as goal

abbrev pub invariant-loop-row : goal.invariant-loop-row
invariant-loop-row l = AreAtMost l.top (drop l.row-index l.rows) → AreAtMost l.top l.rows
