use Rattle.cv_observe.proofs.Insertions.{distinct-append}
use Rattle.cv_observe.proofs.laws.distinct_numbers_of_two_lists.Goals as goal

pub returns : goal.returns
returns c = distinct-append
