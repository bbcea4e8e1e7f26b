use Rattle.std.proofs.Common.{◌≡◌, ℕ, map, subst}
use Rattle.std.specs.List.{range_with_len}
use Rattle.cv_replay.specs.ReplayOf.{ReplayOf, register, since}
use Rattle.cv_replay.specs.Standing.{replay_of}
use Rattle.cv_replay.proofs.replay.Replay.regs_changed.Goals as goal

pub returns : goal.returns
returns c =
    subst (λ (r : ReplayOf). c.turns.result ≡ map (λ (n : ℕ). since (register n) r) (range_with_len 0 32)) c.self.view_is
    (c.turns.ensures (λ (n : ℕ). since (register n) (replay_of c.self.inside.script c.self.inside.here)) c.self.invariant.at.since.each)
