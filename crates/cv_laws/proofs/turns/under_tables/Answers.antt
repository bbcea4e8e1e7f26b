use Rattle.cv_laws.proofs.OneTable.{under_tables}
use Rattle.cv_laws.proofs.turns.under_tables.Goals as goal

-- src/turns.rt
pub returns : goal.returns
returns c = under_tables
