use Rattle.std.proofs.Common.{drop}
use Rattle.cv_audit.specs.Clauses.{AreAtLeast}
use Rattle.cv_audit.proofs.rows.are_at_least.Given as goal

abbrev pub invariant-loop-row : goal.invariant-loop-row
invariant-loop-row l = AreAtLeast l.floor (drop l.row-index l.rows) → AreAtLeast l.floor l.rows
