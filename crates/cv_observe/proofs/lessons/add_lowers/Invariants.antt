use Rattle.std.proofs.Common.{◌≡◌, ◌++◌, take}
use Rattle.std.specs.List.{flat_map}
use Rattle.cv_observe.specs.Learning.{lower_kept}
use Rattle.cv_observe.proofs.lessons.add_lowers.Given as goal

abbrev pub invariant-loop-k : goal.invariant-loop-k
invariant-loop-k l = l.list.items ≡ l.initial.list.items ++ flat_map (lower_kept l.point) (take l.k-index l.registers)
