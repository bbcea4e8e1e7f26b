use Rattle.cv_laws.proofs.Worlds.{ended_may_follow}
use Rattle.cv_laws.proofs.ended_may_follow.Goals as goal

-- src/lib.rt
pub returns : goal.returns
returns c = ended_may_follow
