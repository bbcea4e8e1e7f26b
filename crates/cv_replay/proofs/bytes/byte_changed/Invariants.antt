use Rattle.std.proofs.Common.{◌≡◌, ◌≤◌, ℕ, Option}
use Rattle.cv_replay.specs.ReplayOf.{byte}
use Rattle.cv_replay.specs.Said.{changed_before, value_before}
use Rattle.cv_replay.specs.Script.{steps_by_script}
use Rattle.cv_replay.specs.Standing.{plan_of, turn_of}
use Rattle.cv_replay.proofs.bytes.byte_changed.Given as goal

abbrev pub invariant-loop-copy : goal.invariant-loop-copy
invariant-loop-copy l =
    let before : ℕ → Option ℕ = value_before (byte l.address) (steps_by_script (plan_of l.now) l.script) in
    record {
      end : l.end ≤ turn_of l.now.stand;
      same : changed_before before (turn_of l.now.stand) ≡ changed_before before l.end;
    }
