use Rattle.std.proofs.Common.{drop}
use Rattle.std.specs.Prelude.{◌↔◌}
use Rattle.cv_histories.specs.Honest.{IsJoined}
use Rattle.cv_audit.specs.Rising.{JoinedFrom}
use Rattle.cv_audit.proofs.rows.are_joined.Given as goal

abbrev pub invariant-loop-row : goal.invariant-loop-row
invariant-loop-row l = JoinedFrom l.last (drop l.row-index l.rows) ↔ IsJoined l.rows
