use Rattle.std.proofs.Common.{◌≡◌, ◌-◌, reverse}
use Rattle.std.specs.List.{list_all, range_with_len}
use Rattle.cv_histories.specs.World.{is_posted, numbers_of}
use Rattle.cv_world.proofs.draws.is_over.Given as goal

abbrev pub invariant-loop-number : goal.invariant-loop-number
invariant-loop-number l =
    list_all (is_posted (reverse l.history)) (numbers_of l.plan l.round)
    ≡ list_all (is_posted (reverse l.history)) (range_with_len l.number (l.number-end - l.number))
