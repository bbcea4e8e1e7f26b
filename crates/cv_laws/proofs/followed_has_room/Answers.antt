use Rattle.cv_laws.proofs.Room.{has_room}
use Rattle.cv_laws.proofs.followed_has_room.Goals as goal

-- src/lib.rt
pub returns : goal.returns
returns c = has_room
