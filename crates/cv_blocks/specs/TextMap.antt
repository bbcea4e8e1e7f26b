-- What a map of a text keeps of its image (docs/REPAIR.md, "Windows and procedures").
use Rattle.std.specs.Prelude.{◌≡◌, ℕ, Bool, true, ◌+◌, ◌*◌, ◌%◌, ◌<◌, ◌≤◌, List, [], length, map, slice_index_or}
use Rattle.std.specs.List.{list_any}
use Rattle.cv_base.specs.declared.TheConstants.{HEAP_START}
use Rattle.cv_base.specs.Picture.{Picture, is_point}
use Rattle.cv_isa.specs.declared.registers.RegSet.{RegSet}
use Rattle.cv_isa.specs.Uses.{has}
use Rattle.cv_runs.specs.Text.{inst_at, reads, reads_at, window, window_registers, beginnings, proc_of, proc_end}

-- the image without its segments
abbrev pub text_only : Picture → Picture
text_only image = record image { segments = [] }

-- the two say the same of every address
pub record SayTheSame (a b : Picture) : Type 0 where
  pub points : (p : ℕ) → is_point a p ≡ is_point b p
  pub insts : (p : ℕ) → inst_at a p ≡ inst_at b p
  pub reads : (p : ℕ) → reads_at a p ≡ reads_at b p
  pub windows : (p : ℕ) → window_registers a p ≡ window_registers b p
  pub beginnings : beginnings a ≡ beginnings b
  pub procedures : (p : ℕ) → proc_of a p ≡ proc_of b p
  pub ends : (p : ℕ) → proc_end a p ≡ proc_end b p

-- what every text keeps
pub record IsListed (image : Picture) : Type 0 where
  pub some_words : 1 ≤ length image.words
  pub few_words : length image.words ≤ 65536
  pub aligned : image.text_base % 4 ≡ 0
  pub inside : image.text_base + 4 * length image.words ≤ HEAP_START
  pub entry : is_point image image.entry ≡ true

-- whether register r is read in the window of p
abbrev pub is_in_window : Picture → ℕ → ℕ → Bool
is_in_window image p r = list_any (λ i. reads i r) (map (inst_at image) (window image p))

-- the first `count` sets are those of the windows of the points, in their order
pub record AreWindows (image : Picture) (count : ℕ) (sets : List RegSet) : Type 0 where
  pub as_many : length sets ≡ count
  pub each : (k : ℕ) (d : RegSet) → k < count → (r : ℕ) → has (slice_index_or sets k d) r ≡ is_in_window image (image.text_base + 4 * k) r
