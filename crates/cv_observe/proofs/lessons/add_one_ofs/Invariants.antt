use Rattle.std.proofs.Common.{◌≡◌, ◌++◌, take}
use Rattle.std.specs.List.{flat_map}
use Rattle.cv_observe.specs.Learning.{one_of_kept}
use Rattle.cv_observe.proofs.lessons.add_one_ofs.Given as goal

abbrev pub invariant-loop-k : goal.invariant-loop-k
invariant-loop-k l = l.list.items ≡ l.initial.list.items ++ flat_map (one_of_kept l.point) (take l.k-index l.registers)
