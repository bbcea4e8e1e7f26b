use Rattle.std.proofs.Common.{◌≡◌, ◌++◌, drop}
use Rattle.cv_manager.specs.Progress.{is_same_class, numbers_where}
use Rattle.cv_manager.proofs.decided.numbers_of.Given as goal

abbrev pub invariant-loop-number : goal.invariant-loop-number
invariant-loop-number l =
    l.numbers.items ++ numbers_where (λ k. is_same_class k l.class) l.number (drop l.number l.classes) ≡ numbers_where (λ k. is_same_class k l.class) 0 l.classes
