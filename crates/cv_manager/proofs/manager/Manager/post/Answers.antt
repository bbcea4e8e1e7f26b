use Rattle.cv_manager.proofs.Room.{room}
use Rattle.cv_manager.proofs.manager.Manager.post.Goals as goal

pub commit-requires-clause-room : goal.commit-requires-clause-room
commit-requires-clause-room c =
    room c.self.inside.kept.plan _ c.self.invariant.limits (rw (← c.self.view_is) at c.requires.room)
