use Rattle.std.proofs.Common.{◌≡◌, false, take}
use Rattle.std.specs.List.{list_any}
use Rattle.cv_observe.specs.Learning.{tells_pair}
use Rattle.cv_observe.proofs.lessons.some_tells.Given as goal

abbrev pub invariant-loop-k : goal.invariant-loop-k
invariant-loop-k l = list_any (tells_pair l.a l.b) (take l.k-index l.registers) ≡ false
