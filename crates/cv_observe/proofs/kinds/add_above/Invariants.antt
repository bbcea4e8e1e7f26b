use Rattle.std.proofs.Common.{◌≡◌, ◌++◌, take}
use Rattle.cv_observe.specs.Above.{above}
use Rattle.cv_observe.proofs.kinds.add_above.Given as goal

abbrev pub invariant-loop-b : goal.invariant-loop-b
invariant-loop-b l = l.list.items ≡ l.initial.list.items ++ above l.point l.a l.reads (take l.b-index l.window) l.seen
