use Rattle.std.proofs.Common.{◌≡◌, [], take}
use Rattle.std.specs.List.{All}
use Rattle.cv_isa.specs.Uses.{has}
use Rattle.cv_observe.specs.AtPoint.{IsRegister, numbers_of}
use Rattle.cv_observe.proofs.point.Point.unseen.Given as goal

abbrev pub invariant-loop-r : goal.invariant-loop-r
invariant-loop-r l = record {
  numbers : numbers_of l.registers.items ≡ take l.r-index l.reads;
  kept : All (λ k. IsRegister (has l.window) k []) l.registers.items;
}
