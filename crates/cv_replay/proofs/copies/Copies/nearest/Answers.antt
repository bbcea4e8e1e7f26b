use Rattle.cv_replay.specs.Standing.{plan_of}
use Rattle.cv_replay.proofs.copies.Copies.nearest.Goals as goal

pub returns-else-turn-here : goal.returns-else-turn-here
returns-else-turn-here c = λ script at copies. c.last_at-copy.ensures (plan_of c.args.now.now) script copies
