use Rattle.cv_observe.proofs.LearnedKinds.{learned_kinds}
use Rattle.cv_observe.proofs.laws.learned_are_invariants.Goals as goal

pub returns : goal.returns
returns c = learned_kinds
