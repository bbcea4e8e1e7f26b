use Rattle.std.proofs.Common.{drop}
use Rattle.std.specs.Prelude.{◌↔◌}
use Rattle.cv_histories.specs.Legal.{NeverFalls}
use Rattle.cv_audit.specs.Rising.{RiseFrom}
use Rattle.cv_audit.proofs.rows.never_fall.Given as goal

abbrev pub invariant-loop-row : goal.invariant-loop-row
invariant-loop-row l = RiseFrom l.last (drop l.row-index l.rows) ↔ NeverFalls l.rows
