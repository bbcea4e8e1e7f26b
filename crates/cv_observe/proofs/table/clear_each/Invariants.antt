use Rattle.cv_observe.proofs.EachPlace.{Each}
use Rattle.cv_observe.proofs.OneTable.{Cleared}
use Rattle.cv_observe.proofs.table.clear_each.Given as goal

abbrev pub invariant-loop-x : goal.invariant-loop-x
invariant-loop-x l = Each (Cleared l.map) l.initial.points l.x l.points
