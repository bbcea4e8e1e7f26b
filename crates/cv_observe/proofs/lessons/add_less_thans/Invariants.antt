use Rattle.std.proofs.Common.{◌≡◌, ◌++◌, take}
use Rattle.std.specs.List.{flat_map}
use Rattle.cv_observe.specs.Learning.{above_kept}
use Rattle.cv_observe.proofs.lessons.add_less_thans.Given as goal

abbrev pub invariant-loop-a : goal.invariant-loop-a
invariant-loop-a l = l.list.items ≡ l.initial.list.items ++ flat_map (above_kept l.point l.registers l.window) (take l.a-index l.window)
