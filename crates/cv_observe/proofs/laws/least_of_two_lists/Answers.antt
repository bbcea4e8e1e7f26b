use Rattle.cv_observe.proofs.Narrowing.{least_joined}
use Rattle.cv_observe.proofs.laws.least_of_two_lists.Goals as goal

pub returns : goal.returns
returns c = least_joined
