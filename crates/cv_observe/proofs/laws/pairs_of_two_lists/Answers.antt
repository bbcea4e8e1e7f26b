use Rattle.cv_observe.proofs.Narrowing.{ordered_joined}
use Rattle.cv_observe.proofs.laws.pairs_of_two_lists.Goals as goal

pub returns : goal.returns
returns c = ordered_joined
