use Rattle.cv_observe.proofs.Adding.{more_left}
use Rattle.cv_observe.proofs.laws.more_numbers_stay_more.Goals as goal

pub returns : goal.returns
returns c = more_left
