-- What is learned of the indirect call, in order.
use Rattle.std.specs.Prelude.{ℕ, List, [], ◌∷◌, codes}
use Rattle.std.specs.List.{flat_map}
use Rattle.cv_histories.specs.Report.{line}

abbrev pub calling_learned : List ℕ
calling_learned = flat_map line (
    codes "sp-offset 00010000 00000000" ∷
    codes "one-of 00010004 x2 00800000" ∷
    codes "sp-offset 00010004 00000000" ∷
    codes "sp-offset 00010008 00000000" ∷
    codes "sp-offset 0001000C 00000000" ∷
    codes "one-of 00010010 x10 00000000" ∷
    codes "one-of 00010010 x11 007FFFF0" ∷
    codes "one-of 00010010 x12 00000004" ∷
    codes "one-of 00010010 x17 0000003F" ∷
    codes "less-than 00010010 x10 x2" ∷
    codes "less-than 00010010 x10 x11" ∷
    codes "less-than 00010010 x10 x12" ∷
    codes "less-than 00010010 x10 x17" ∷
    codes "less-than 00010010 x11 x2" ∷
    codes "less-than 00010010 x12 x2" ∷
    codes "less-than 00010010 x12 x11" ∷
    codes "less-than 00010010 x12 x17" ∷
    codes "less-than 00010010 x17 x2" ∷
    codes "less-than 00010010 x17 x11" ∷
    codes "sp-offset 00010010 00000000" ∷
    codes "one-of 00010014 x2 00800000" ∷
    codes "sp-offset 00010014 00000000" ∷
    codes "one-of 00010018 x6 00010024,0001002C" ∷
    codes "less-than 00010018 x6 x2" ∷
    codes "sp-offset 00010018 00000000" ∷
    codes "sp-offset 0001001C 00000000" ∷
    codes "one-of 00010020 x10 00000007,00000009" ∷
    codes "one-of 00010020 x11 007FFFF0" ∷
    codes "one-of 00010020 x12 00000004" ∷
    codes "one-of 00010020 x17 0000005D" ∷
    codes "less-than 00010020 x10 x11" ∷
    codes "less-than 00010020 x10 x17" ∷
    codes "less-than 00010020 x12 x10" ∷
    codes "less-than 00010020 x12 x11" ∷
    codes "less-than 00010020 x12 x17" ∷
    codes "less-than 00010020 x17 x11" ∷
    codes "sp-offset 00010020 00000000" ∷
    codes "sp-offset 00010024 00000000" ∷
    codes "one-of 00010028 x1 0001001C" ∷
    codes "sp-offset 00010028 00000000" ∷
    codes "sp-offset 0001002C 00000000" ∷
    codes "one-of 00010030 x1 0001001C" ∷
    codes "sp-offset 00010030 00000000" ∷
    codes "learned 43" ∷ [])
