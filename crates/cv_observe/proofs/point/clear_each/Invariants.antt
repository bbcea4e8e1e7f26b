use Rattle.std.proofs.Common.{◌≡◌, []}
use Rattle.cv_isa.specs.Uses.{has}
use Rattle.cv_observe.specs.AtPoint.{IsRegister}
use Rattle.cv_observe.proofs.EachPlace.{Each}
use Rattle.cv_observe.proofs.point.clear_each.Given as goal

abbrev pub invariant-loop-x : goal.invariant-loop-x
invariant-loop-x l =
    Each (λ x old new. (new.number ≡ old.number) × IsRegister (has l.window) new []) l.initial.list l.x l.list
