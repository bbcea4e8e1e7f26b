use Rattle.std.proofs.Common.{◌≡◌, ◌++◌, take}
use Rattle.std.specs.List.{flat_map}
use Rattle.cv_observe.specs.Above.{above}
use Rattle.cv_observe.proofs.kinds.add_less_thans.Given as goal

abbrev pub invariant-loop-a : goal.invariant-loop-a
invariant-loop-a l = l.list.items ≡ l.initial.list.items ++ flat_map (λ a. above l.point a l.reads l.window l.seen) (take l.a-index l.window)
