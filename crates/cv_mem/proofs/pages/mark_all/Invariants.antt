use Rattle.std.proofs.Common.{◌≡◌, ℕ, ◌/◌, ◌<◌, ◌≤◌, true, false}
use Rattle.cv_mem.specs.Pages.{is_written}
use Rattle.cv_mem.proofs.pages.mark_all.Given as goal

abbrev pub invariant-loop-page : goal.invariant-loop-page
invariant-loop-page l = record {
  covers : (a : ℕ) → l.at ≤ a → a / 4096 < l.page → is_written l.written a ≡ true;
  others : (a : ℕ) → is_written l.written a ≡ false → is_written l.fn.written a ≡ false;
}
