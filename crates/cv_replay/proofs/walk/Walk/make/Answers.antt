use Rattle.std.proofs.Common.{sym, subst}
use Rattle.cv_replay.specs.Changed.{AreSince}
use Rattle.cv_replay.proofs.LastChange.{none_since}
use Rattle.cv_replay.proofs.walk.Walk.make.Goals as goal

pub returns-clause-since : goal.returns-clause-since
returns-clause-since c = λ steps. subst (AreSince steps 0) (sym c.none.ensures) (none_since steps)
