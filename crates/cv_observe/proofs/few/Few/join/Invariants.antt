use Rattle.cv_observe.proofs.Adding.{Joins}
use Rattle.cv_observe.proofs.few.Few.join.Given as goal

abbrev pub invariant-loop-number : goal.invariant-loop-number
invariant-loop-number g l =
    Joins g.row.N l.initial.self.numbers.items l.initial.self.more l.other.numbers.items l.number-index l.self.numbers.items l.self.more
