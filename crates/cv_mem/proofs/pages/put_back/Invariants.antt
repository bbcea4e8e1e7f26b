use Rattle.std.proofs.Common.{◌≡◌, ℕ, ◌/◌, ◌<◌, false}
use Rattle.cv_mem.specs.Memory.{memory_of}
use Rattle.cv_mem.specs.Pages.{is_written}
use Rattle.cv_mem.proofs.pages.put_back.Given as goal

abbrev pub invariant-loop-page : goal.invariant-loop-page
invariant-loop-page l = record {
  done : (a : ℕ) → a / 4096 < l.page → is_written l.written a ≡ false;
  kept : (a : ℕ) → is_written l.written a ≡ false → memory_of l.bytes a ≡ memory_of l.start a;
}
