use Rattle.cv_laws.proofs.VersionTables.{some_version}
use Rattle.cv_laws.proofs.versions.some_version.Goals as goal

-- src/versions.rt
pub returns : goal.returns
returns c = some_version
