use Rattle.std.proofs.Common.{ℕ}
use Rattle.cv_observe.proofs.AtPoints.{SeenFrom}
use Rattle.cv_observe.proofs.point.see_rest.Given as goal

abbrev pub invariant-loop-x : goal.invariant-loop-x
invariant-loop-x l = SeenFrom l.regs l.initial.list l.from l.x l.list
