use Rattle.std.proofs.Common.{◌≡◌, ℕ, ◌<◌, ◌≤◌}
use Rattle.std.specs.Prelude.{option_map, slice_get, slice_index}
use Rattle.cv_replay.specs.Changed.{cell_after}
use Rattle.cv_replay.proofs.changes.Changes.note.Given as goal

abbrev pub invariant-loop-number : goal.invariant-loop-number
invariant-loop-number l = record {
  done : (reg : ℕ) → reg < l.number → slice_get l.self.cells reg ≡ option_map (cell_after (slice_index l.before reg) (slice_index l.after reg) l.next) (slice_get l.fn.self.cells reg);
  rest : (reg : ℕ) → l.number ≤ reg → slice_get l.self.cells reg ≡ slice_get l.fn.self.cells reg;
}
