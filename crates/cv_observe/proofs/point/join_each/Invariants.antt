use Rattle.std.proofs.Common.{get_or}
use Rattle.cv_observe.specs.AtPoint.{Joins}
use Rattle.cv_observe.specs.declared.register.Register.{Register}
use Rattle.cv_observe.proofs.EachPlace.{Each}
use Rattle.cv_observe.proofs.point.join_each.Given as goal

abbrev pub invariant-loop-x : goal.invariant-loop-x
invariant-loop-x l =
    Each (λ x old new. (d : Register) → Joins old (get_or l.others x d) new) l.initial.list l.x l.list
