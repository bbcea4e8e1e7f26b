-- A table with an index: where its patches are found by the slot of their point. Every word has one
-- of 4,096 slots, by its address.
use Rattle.std.specs.Prelude.{◌≡◌, ◌≤◌, ◌<◌, ℕ, suc, zero, Bool, false, ◌==◌, ◌+◌, ◌/◌, ◌%◌, List, length, slice_index_or}
use Rattle.std.specs.List.{list_any}
use Rattle.cv_base.specs.declared.patches.Patch.{Patch}
use Rattle.cv_runs.specs.Apply.{patch_point}
use Rattle.cv_runs.specs.Arithmetic.{plus32}

abbrev pub has_patch : List Patch → ℕ → Bool
has_patch patches pc = list_any (λ (q : Patch). patch_point q == pc) patches

-- no patch stands at an address and the words behind it, `count` in all
abbrev pub AreFree : List Patch → ℕ → ℕ → Type 0
AreFree patches zero pc = Unit {0}
AreFree patches (suc count) pc = (has_patch patches pc ≡ false) × AreFree patches count (plus32 pc 4)

abbrev pub slot_of : ℕ → ℕ
slot_of pc = pc / 4 % 4096

-- the slot of the patch at a place
abbrev pub slot_at : List Patch → ℕ → Patch → ℕ
slot_at patches place none = slot_of (patch_point (slice_index_or patches place none))

-- the place of the first patch of a slot from a place on; the number of all where there is none
pub record Finds (patches : List Patch) (slot from place : ℕ) : Type 0 where
  pub behind : from ≤ place
  pub within : place ≤ length patches
  pub before : (k : ℕ) (none : Patch) → from ≤ k → k < place → slot_at patches k none ≡ slot → ⊥
  pub found : (none : Patch) → place < length patches → slot_at patches place none ≡ slot

abbrev pub FindsFirst : List Patch → List ℕ → ℕ → Type 0
FindsFirst patches first from = (slot : ℕ) → slot < 4096 → Finds patches slot from (slice_index_or first slot 0)

abbrev pub FindsNext : List Patch → List ℕ → ℕ → Type 0
FindsNext patches next from = (k : ℕ) (none : Patch) → from ≤ k → k < length patches → Finds patches (slot_at patches k none) (k + 1) (slice_index_or next k 0)

-- `count` slots from one on have no first patch
pub record AreEmpty (count : ℕ) (first : List ℕ) (slot free : ℕ) : Type 0 where
  pub within : slot + free ≤ 4096
  pub empty : (k : ℕ) → slot ≤ k → k < slot + free → count ≤ slice_index_or first k 0

abbrev pub AllEmpty : ℕ → List ℕ → List ℕ → ℕ → Type 0
AllEmpty count first free from = (slot : ℕ) → from ≤ slot → slot < 4096 → AreEmpty count first slot (slice_index_or free slot 0)

pub record IsIndex (patches : List Patch) (first next free : List ℕ) : Type 0 where
  pub slots : length first ≡ 4096
  pub places : length next ≡ length patches
  pub frees : length free ≡ 4096
  pub first_is : FindsFirst patches first 0
  pub next_is : FindsNext patches next 0
  pub free_is : AllEmpty (length patches) first free 0
