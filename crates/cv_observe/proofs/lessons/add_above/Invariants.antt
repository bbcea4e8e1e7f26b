use Rattle.std.proofs.Common.{◌≡◌, ◌++◌, take}
use Rattle.cv_observe.specs.Learning.{above_kept}
use Rattle.cv_observe.proofs.lessons.add_above.Given as goal

abbrev pub invariant-loop-b : goal.invariant-loop-b
invariant-loop-b l = l.list.items ≡ l.initial.list.items ++ above_kept l.point l.registers (take l.b-index l.window) l.a
