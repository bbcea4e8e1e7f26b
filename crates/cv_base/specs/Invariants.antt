-- Which invariants there are (docs/REPAIR.md, "Invariants").
use Rattle.std.specs.Prelude.{ℕ, Bool, true, not, ◌&&◌, ◌==◌, nat_le, nat_lt, List, [], ◌∷◌, length}
use Rattle.cv_base.specs.declared.invariants.Invariant.{Invariant}
use Rattle.cv_base.specs.declared.invariants.Invariant.TheVariants.{OneOf, Lower, LessThan, SpOffset}

-- a register from x1 to x31
abbrev pub is_register : ℕ → Bool
is_register r = nat_le 1 r && nat_lt r 32

abbrev pub is_ascending : List ℕ → Bool
is_ascending [] = true
is_ascending (a ∷ []) = true
is_ascending (a ∷ b ∷ rest) = nat_lt a b && is_ascending (b ∷ rest)

-- one to four values in ascending order, and two different registers
abbrev pub is_invariant : Invariant → Bool
is_invariant (OneOf point reg values) =
    is_register reg && nat_le 1 (length values) && nat_le (length values) 4 && is_ascending values
is_invariant (Lower point reg bound) = is_register reg
is_invariant (LessThan point low high) = is_register low && is_register high && not (low == high)
is_invariant (SpOffset point offset) = true
