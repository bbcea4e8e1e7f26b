-- The texts of registers, lists and invariants (docs/FORMATS.md, "Text forms").
use Rattle.std.specs.Prelude.{ℕ, List, [], ◌∷◌, ◌++◌, map, codes}
use Rattle.std.specs.Fmt.{decimal}
use Rattle.std.specs.List.{join_with_byte}
use Rattle.cv_base.specs.declared.invariants.Invariant.{Invariant}
use Rattle.cv_base.specs.declared.invariants.Invariant.TheVariants.{OneOf, Lower, LessThan, SpOffset}
use Rattle.cv_base.specs.Text.{address_text}

-- a list, joined by commas, or `-` where it is empty
abbrev pub list_text : List (List ℕ) → List ℕ
list_text [] = codes "-"
list_text (piece ∷ pieces) = join_with_byte 44 (piece ∷ pieces)

abbrev pub register_text : ℕ → List ℕ
register_text r = codes "x" ++ decimal r

abbrev pub invariant_text : Invariant → List ℕ
invariant_text (OneOf point reg values) =
    codes "one-of " ++ address_text point ++ codes " " ++ register_text reg ++ codes " " ++ list_text (map address_text values)
invariant_text (Lower point reg bound) =
    codes "lower " ++ address_text point ++ codes " " ++ register_text reg ++ codes " " ++ address_text bound
invariant_text (LessThan point low high) =
    codes "less-than " ++ address_text point ++ codes " " ++ register_text low ++ codes " " ++ register_text high
invariant_text (SpOffset point offset) = codes "sp-offset " ++ address_text point ++ codes " " ++ address_text offset
