-- What is kept of the numbers that were seen (docs/REPAIR.md, "Learning").
use Rattle.std.specs.Prelude.{◌≡◌, ℕ, ◌<◌, ◌≤◌, Bool, true, false, ◌&&◌, List, length, Option, Some, None}
use Rattle.std.specs.List.{reduce}
use Rattle.cv_base.specs.declared.entries.Observation.{Observation}
use Rattle.cv_isa.specs.Uses.{has}
use Rattle.cv_isa.specs.declared.registers.RegSet.{RegSet}
use Rattle.cv_runs.specs.Learned.{distinct, is_ordered, lesser}

-- up to n distinct numbers, ascending; where there were more, a mark alone
pub record IsFew (n : ℕ) (kept : List ℕ) (more : Bool) (numbers : List ℕ) : Type 0 where
  pub all : more ≡ false → kept ≡ distinct numbers
  pub few : more ≡ false → length kept ≤ n
  pub over : more ≡ true → n < length (distinct numbers)

-- the least of some numbers, as two's complement numbers
abbrev pub least_of : List ℕ → Option ℕ
least_of numbers = reduce lesser numbers

-- the lesser of two leasts, where there are any
abbrev pub lesser_of : Option ℕ → Option ℕ → Option ℕ
lesser_of None y = y
lesser_of (Some x) None = Some x
lesser_of (Some x) (Some y) = Some (lesser x y)

-- the registers of a window that register r was never above, and those that it was never below
abbrev pub AreAbove : (ℕ → Bool) → ℕ → List Observation → RegSet → Type 0
AreAbove window r here set = (b : ℕ) → has set b ≡ (window b && is_ordered here r b)

abbrev pub AreBelow : (ℕ → Bool) → ℕ → List Observation → RegSet → Type 0
AreBelow window r here set = (b : ℕ) → has set b ≡ (window b && is_ordered here b r)
