use Rattle.cv_laws.proofs.VersionTables.{floor_stays}
use Rattle.cv_laws.proofs.versions.floor_stays.Goals as goal

-- src/versions.rt
pub returns : goal.returns
returns c = floor_stays
