use Rattle.cv_laws.proofs.Worlds.{every_world_is_legal}
use Rattle.cv_laws.proofs.every_world_is_legal.Goals as goal

-- src/lib.rt
pub returns : goal.returns
returns c = every_world_is_legal
