use Rattle.cv_laws.proofs.SerialMayFollow.{next_may_follow}
use Rattle.cv_laws.proofs.serial.next_may_follow.Goals as goal

-- src/serial.rt
pub returns : goal.returns
returns c = next_may_follow
