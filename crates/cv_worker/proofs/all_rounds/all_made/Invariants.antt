use Rattle.std.proofs.Common.{◌≡◌, ◌++◌, length}
use Rattle.std.specs.Vec.Iter.{into_iter_items, into_iter_len}
use Rattle.cv_worker.proofs.all_rounds.all_made.Given as goal
use Rattle.cv_worker.specs.Seats.{AreAllOf}

abbrev pub invariant-loop-instance : goal.invariant-loop-instance
invariant-loop-instance g l =
    (l.yielded ++ into_iter_items l.instance-iterator ≡ into_iter_items l.initial.instance-iterator)
    × (into_iter_len l.instance-iterator ≡ length (into_iter_items l.instance-iterator))
    × AreAllOf l.yielded l.instances.items
