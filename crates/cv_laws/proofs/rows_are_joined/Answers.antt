use Rattle.cv_laws.proofs.JoinedRows.{rows_are_joined}
use Rattle.cv_laws.proofs.rows_are_joined.Goals as goal

-- src/lib.rt
pub returns : goal.returns
returns c = rows_are_joined
