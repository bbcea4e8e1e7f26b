use Rattle.cv_laws.proofs.VersionTables.{floor_below}
use Rattle.cv_laws.proofs.versions.floor_is_below.Goals as goal

-- src/versions.rt
pub returns : goal.returns
returns c = floor_below
