use Rattle.std.proofs.Common.{◌≡◌, ◌-◌, map}
use Rattle.std.specs.List.{range_with_len}
use Rattle.cv_machine.specs.Held.{state_of}
use Rattle.cv_runs.specs.State.{x}
use Rattle.clearview.proofs.replay.values_of.Given as goal

abbrev pub invariant-loop-number : goal.invariant-loop-number
invariant-loop-number l = l.values.items ≡ map (x (state_of l.machine)) (range_with_len 1 (l.number - 1))
