use Rattle.std.proofs.Common.{◌≡◌, ◌≤◌, ℕ, Option, Some}
use Rattle.cv_replay.specs.Changed.{or_before}
use Rattle.cv_replay.specs.ReplayOf.{byte}
use Rattle.cv_replay.specs.Said.{changed_before, value_before}
use Rattle.cv_replay.specs.Script.{steps_by_script}
use Rattle.cv_replay.specs.Standing.{IsAt, turn_of}
use Rattle.cv_replay.proofs.bytes.changed_from.Given as goal

abbrev pub invariant-loop-turn : goal.invariant-loop-turn
invariant-loop-turn l =
    let before : ℕ → Option ℕ = value_before (byte l.address) (steps_by_script l.from.flight.plan l.script) in
    record {
      plan : l.stand.flight.plan ≡ l.from.flight.plan;
      end : l.turn ≤ l.to;
      at : IsAt l.script l.stand;
      turn : turn_of l.stand ≡ l.turn;
      value : before l.turn ≡ Some l.value;
      found : changed_before before l.turn ≡ or_before l.found (changed_before before (turn_of l.from));
    }
