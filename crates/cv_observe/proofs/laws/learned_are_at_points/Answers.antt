use Rattle.cv_observe.proofs.LearnedKinds.{learned_points}
use Rattle.cv_observe.proofs.laws.learned_are_at_points.Goals as goal

pub returns : goal.returns
returns c = learned_points
