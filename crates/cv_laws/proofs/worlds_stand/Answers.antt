use Rattle.cv_laws.proofs.Worlds.{worlds_stand}
use Rattle.cv_laws.proofs.worlds_stand.Goals as goal

-- src/lib.rt
pub returns : goal.returns
returns c = worlds_stand
