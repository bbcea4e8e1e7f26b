use Rattle.cv_observe.proofs.Adding.{walked}
use Rattle.cv_observe.proofs.few.is_there.Given as goal

abbrev pub invariant-loop-at : goal.invariant-loop-at
invariant-loop-at l = walked l.numbers l.number l.at
