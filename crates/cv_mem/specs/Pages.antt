-- Which pages of 4,096 bytes a run has written: the bytes of all others are those of its start.
use Rattle.std.specs.Prelude.{◌≡◌, ℕ, Bool, false, ◌*◌, ◌/◌, List, length, slice_index_or}
use Rattle.cv_mem.specs.Memory.{memory_of}
use Rattle.cv_mem.specs.SpaceOf.{memory_size}

-- whether the page of an address was written; no page past the last was
abbrev pub is_written : List Bool → ℕ → Bool
is_written written a = slice_index_or written (a / 4096) false

pub record IsKept (bytes start : List ℕ) (written : List Bool) : Type 0 where
  pub pages : 4096 * length written ≡ memory_size
  pub same : (a : ℕ) → is_written written a ≡ false → memory_of bytes a ≡ memory_of start a
