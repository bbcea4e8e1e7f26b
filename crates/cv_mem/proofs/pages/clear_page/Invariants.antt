use Rattle.std.proofs.Common.{◌≡◌, ℕ, ◌<◌, ◌≤◌}
use Rattle.cv_mem.specs.Memory.{memory_of}
use Rattle.cv_mem.proofs.pages.clear_page.Given as goal

abbrev pub invariant-loop-place : goal.invariant-loop-place
invariant-loop-place l = record {
  inside : (a : ℕ) → l.at ≤ a → a < l.place → memory_of l.bytes a ≡ 0;
  below : (a : ℕ) → a < l.at → memory_of l.bytes a ≡ memory_of l.fn.bytes a;
  above : (a : ℕ) → l.place ≤ a → memory_of l.bytes a ≡ memory_of l.fn.bytes a;
}
