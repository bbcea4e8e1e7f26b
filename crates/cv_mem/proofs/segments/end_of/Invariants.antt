use Rattle.std.proofs.Common.{◌≡◌, ℕ, ◌≤◌, take}
use Rattle.cv_mem.specs.Memory.{start_memory}
use Rattle.cv_mem.proofs.segments.end_of.Given as goal

abbrev pub invariant-loop-segment : goal.invariant-loop-segment
invariant-loop-segment l = (a : ℕ) → l.end ≤ a → start_memory (take l.segment-index l.segments) a ≡ 0
