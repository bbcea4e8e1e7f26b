-- What is kept of what was seen before turns at a point (docs/REPAIR.md, "Learning").
use Rattle.std.specs.Prelude.{◌≡◌, ℕ, ◌^◌, ◌<◌, Bool, true, false, List, [], ◌∷◌, ◌++◌, length, map}
use Rattle.std.specs.List.{All}
use Rattle.cv_base.specs.Registers.{register}
use Rattle.cv_base.specs.declared.entries.Observation.{Observation}
use Rattle.cv_observe.specs.declared.point.Point.{Point}
use Rattle.cv_observe.specs.declared.register.Register.{Register}
use Rattle.cv_observe.specs.Kept.{IsFew, AreAbove, AreBelow, least_of}
use Rattle.cv_runs.specs.Arithmetic.{minus32}
use Rattle.cv_runs.specs.Learned.{values_of}

-- of a register: its values, which are words, the least one, and the registers of the window with
-- which it was always in order
pub record IsRegister (window : ℕ → Bool) (k : Register) (here : List Observation) : Type 0 where
  pub values : IsFew 4 k.values.numbers.items k.values.more (values_of k.number here)
  pub words : All (λ (v : ℕ). v < 2 ^ 32) (values_of k.number here)
  pub least : k.least ≡ least_of (values_of k.number here)
  pub above : AreAbove window k.number here k.above
  pub below : AreBelow window k.number here k.below

-- what stands for one observation more, and for the observations of two
pub record Sees (old new : Register) (regs : List ℕ) : Type 0 where
  pub number : new.number ≡ old.number
  pub kept : (window : ℕ → Bool) (here : List Observation) (o : Observation) → o.regs ≡ regs → IsRegister window old here → IsRegister window new (here ++ o ∷ [])

pub record Joins (old other new : Register) : Type 0 where
  pub number : new.number ≡ old.number
  pub kept : (window : ℕ → Bool) (xs ys : List Observation) → IsRegister window old xs → IsRegister window other ys → IsRegister window new (xs ++ ys)

abbrev pub numbers_of : List Register → List ℕ
numbers_of registers = map (λ (k : Register). k.number) registers

abbrev pub offset_of : Observation → ℕ
offset_of o = minus32 (register o.regs 2) o.frame_sp

-- of a point: whether it was seen, the offset of sp from the frame's sp, and its registers
pub record IsPoint (window : ℕ → Bool) (k : Point) (here : List Observation) : Type 0 where
  pub unseen : k.seen ≡ false → here ≡ []
  pub seen : k.seen ≡ true → 0 < length here
  pub offsets : IsFew 1 k.offsets.numbers.items k.offsets.more (map offset_of here)
  pub registers : All (λ r. IsRegister window r here) k.registers.items
