use Rattle.cv_observe.proofs.EachPlace.{Each}
use Rattle.cv_observe.proofs.OneTable.{Joined}
use Rattle.cv_observe.proofs.table.join_each.Given as goal

abbrev pub invariant-loop-x : goal.invariant-loop-x
invariant-loop-x l = Each (Joined l.others) l.initial.points l.x l.points
