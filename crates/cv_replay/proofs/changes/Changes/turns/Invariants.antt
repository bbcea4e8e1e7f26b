use Rattle.std.proofs.Common.{◌≡◌, ℕ, ◌<◌}
use Rattle.std.specs.Prelude.{length, option_map, slice_get}
use Rattle.cv_replay.specs.Changed.{turn_in}
use Rattle.cv_replay.proofs.changes.Changes.turns.Given as goal

abbrev pub invariant-loop-number : goal.invariant-loop-number
invariant-loop-number l = record {
  all : length l.turns ≡ 32;
  done : (reg : ℕ) → reg < l.number → slice_get l.turns reg ≡ option_map turn_in (slice_get l.self.cells reg);
}
