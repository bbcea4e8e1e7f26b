use Rattle.std.proofs.Common.{◌≡◌, ◌-◌, length, reverse}
use Rattle.std.specs.List.{list_all, range_with_len}
use Rattle.std.specs.Prelude.{find, not}
use Rattle.cv_histories.specs.World.{current_round, is_posted, numbers_of}
use Rattle.cv_world.proofs.draws.current_round.Given as goal

abbrev pub invariant-loop-round : goal.invariant-loop-round
invariant-loop-round l =
    current_round l.plan (reverse l.history)
    ≡ find (λ round. not (list_all (is_posted (reverse l.history)) (numbers_of l.plan round))) (range_with_len l.round (length l.plan.rounds - l.round))
