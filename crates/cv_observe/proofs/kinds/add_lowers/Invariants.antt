use Rattle.std.proofs.Common.{◌≡◌, ◌++◌, take}
use Rattle.cv_runs.specs.Learned.{lowers}
use Rattle.cv_observe.proofs.kinds.add_lowers.Given as goal

abbrev pub invariant-loop-r : goal.invariant-loop-r
invariant-loop-r l = l.list.items ≡ l.initial.list.items ++ lowers l.point (take l.r-index l.reads) l.seen
