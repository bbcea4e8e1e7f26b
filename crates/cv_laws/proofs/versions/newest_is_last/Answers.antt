use Rattle.cv_laws.proofs.VersionTables.{newest_there}
use Rattle.cv_laws.proofs.versions.newest_is_last.Goals as goal

-- src/versions.rt
pub returns : goal.returns
returns c = newest_there
