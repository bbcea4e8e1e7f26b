use Rattle.cv_observe.proofs.AtPoints.{SeenTo}
use Rattle.cv_observe.proofs.point.see_quick.Given as goal

abbrev pub invariant-loop-x : goal.invariant-loop-x
invariant-loop-x l = SeenTo l.regs l.initial.list l.x l.list
