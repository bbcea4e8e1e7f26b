-- When an invariant holds, which registers it names, and the order of invariants
-- (docs/REPAIR.md, "Invariants").
use Rattle.std.specs.Prelude.{ℕ, Bool, false, not, ◌||◌, ◌==◌, List, [], ◌∷◌}
use Rattle.std.specs.Cmp.Lexicographic.{slice_cmp}
use Rattle.std.specs.List.{list_any}
use Rattle.std.specs.Ordering.{nat_cmp}
use Rattle.std.specs.declared.cmp.Ordering.{Ordering}
use Rattle.cv_base.specs.declared.invariants.Invariant.{Invariant}
use Rattle.cv_base.specs.declared.invariants.Invariant.TheVariants.{OneOf, Lower, LessThan, SpOffset}
use Rattle.cv_base.specs.Registers.{register}
use Rattle.cv_runs.specs.Arithmetic.{minus32, signed_lt}

abbrev pub point_of : Invariant → ℕ
point_of (OneOf point reg values) = point
point_of (Lower point reg bound) = point
point_of (LessThan point low high) = point
point_of (SpOffset point offset) = point

-- at most, as two's complement numbers
abbrev pub signed_le : ℕ → ℕ → Bool
signed_le a b = not (signed_lt b a)

-- whether an invariant holds of the registers and the frame's sp
abbrev pub holds : Invariant → List ℕ → ℕ → Bool
holds (OneOf point reg values) regs frame_sp = list_any (λ v. v == register regs reg) values
holds (Lower point reg bound) regs frame_sp = signed_le bound (register regs reg)
holds (LessThan point low high) regs frame_sp = signed_le (register regs low) (register regs high)
holds (SpOffset point offset) regs frame_sp = minus32 (register regs 2) frame_sp == offset

-- an SpOffset names no register
abbrev pub names : Invariant → ℕ → Bool
names (OneOf point reg values) r = r == reg
names (Lower point reg bound) r = r == reg
names (LessThan point low high) r = (r == low) || (r == high)
names (SpOffset point offset) r = false

-- invariants are ordered by point, then kind, then registers, then values
abbrev pub key : Invariant → List ℕ
key (OneOf point reg values) = point ∷ 0 ∷ reg ∷ values
key (Lower point reg bound) = point ∷ 1 ∷ reg ∷ bound ∷ []
key (LessThan point low high) = point ∷ 2 ∷ low ∷ high ∷ []
key (SpOffset point offset) = point ∷ 3 ∷ offset ∷ []

abbrev pub invariant_cmp : Invariant → Invariant → Ordering
invariant_cmp a b = slice_cmp nat_cmp (key a) (key b)
