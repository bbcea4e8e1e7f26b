use Rattle.cv_laws.proofs.VersionTables.{tables_stay}
use Rattle.cv_laws.proofs.versions.tables_stay.Goals as goal

-- src/versions.rt
pub returns : goal.returns
returns c = tables_stay
