-- Which values operands of a kind have: what private functions promise, so that the fields of an
-- instruction are in range.
use Rattle.std.specs.Prelude.{◌≡◌, ℕ, ◌+◌, ◌%◌, ◌^◌, ◌<◌, ◌≤◌, ◌⊎◌, List, [], ◌∷◌, Result, Ok, Err}
use Rattle.cv_asm.specs.declared.fault.LineFault.{LineFault}
use Rattle.cv_asm.specs.declared.numbers.Number.{Number}
use Rattle.cv_asm.specs.declared.shapes.Kind.{Kind}
use Rattle.cv_asm.specs.declared.shapes.Kind.TheVariants as kind
use Rattle.cv_asm.specs.Capped.{capped_number}

-- the range is one of 32-bit numbers
abbrev pub IsKind : Kind → Type 0
IsKind kind.Register = Unit {0}
IsKind (kind.Number low high) = (low < 2 ^ 31) × (high < 2 ^ 32)
IsKind (kind.Target low high) = (low < 2 ^ 31) × (high < 2 ^ 32)

-- from −low to high, as a 32-bit number
abbrev pub IsFrom : ℕ → ℕ → ℕ → Type 0
IsFrom low high v = (v ≤ high) ⊎ ((2 ^ 32 ≤ v + low) × (v < 2 ^ 32))

abbrev pub IsOfKind : Kind → ℕ → Type 0
IsOfKind kind.Register v = v < 32
IsOfKind (kind.Number low high) v = IsFrom low high v
IsOfKind (kind.Target low high) v = IsFrom low high v × (v % 2 ≡ 0)

abbrev pub AreOfKinds : List Kind → List ℕ → Type 0
AreOfKinds [] [] = Unit {0}
AreOfKinds (k ∷ ks) (v ∷ vs) = IsOfKind k v × AreOfKinds ks vs
AreOfKinds _ _ = ⊥

-- a target with its size up to the cap
abbrev pub capped_target : Result Number LineFault → Result Number LineFault
capped_target (Ok n) = Ok (capped_number n)
capped_target (Err fault) = Err fault
