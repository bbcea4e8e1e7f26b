use Rattle.std.proofs.Common.{◌≡◌, ℕ, arith, subst}
use Rattle.cv_replay.specs.Changed.{or_before}
use Rattle.cv_replay.specs.ReplayOf.{byte}
use Rattle.cv_replay.specs.Said.{changed_before, value_before}
use Rattle.cv_replay.specs.Script.{steps_by_script}
use Rattle.cv_replay.specs.Standing.{turn_of}
use Rattle.cv_replay.proofs.bytes.changed_from.Goals as goal

pub returns : goal.returns
returns c =
    let before = value_before (byte c.args.address) (steps_by_script c.args.from.now.flight.plan c.args.script.now) in
    let end = c.loop-turn.invariant.end in
    let over = c.loop-turn-test.false in
    let to : c.loop-turn.turn ≡ c.args.to = omega (arith, end, over) in
    subst (λ (n : ℕ). changed_before before n ≡ or_before c.loop-turn.found (changed_before before (turn_of c.args.from.now))) to c.loop-turn.invariant.found
