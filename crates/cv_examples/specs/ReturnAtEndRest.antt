-- A Return that fires and does nothing. The rest of its report.
use Rattle.std.specs.Prelude.{ℕ, List, [], ◌∷◌, ◌++◌, codes}
use Rattle.std.specs.List.{flat_map}
use Rattle.cv_histories.specs.Report.{line}
use Rattle.cv_examples.specs.ReturnAtEnd.{return_at_end_entries}
use Rattle.cv_examples.specs.ReturnAtEndCases.{return_at_end_cases}

abbrev pub return_at_end_rest : List ℕ
return_at_end_rest = flat_map line (
    codes "candidate 2.7 sp-offset 00010044 00000000 class not" ∷
    codes "candidate 2.8 one-of 0001004C x5 00010028 class not" ∷
    codes "candidate 2.9 less-than 0001004C x5 x2 class not" ∷
    codes "candidate 2.10 less-than 0001004C x5 x9 class not" ∷
    codes "candidate 2.11 less-than 0001004C x8 x5 class not" ∷
    codes "candidate 2.12 sp-offset 0001004C 00000000 class not" ∷
    codes "candidate 2.13 one-of 00010040 x5 00010028 class not" ∷
    codes "candidate 2.14 less-than 00010040 x5 x2 class not" ∷
    codes "candidate 2.15 less-than 00010040 x5 x9 class not" ∷
    codes "candidate 2.16 less-than 00010040 x8 x5 class not" ∷
    codes "candidate 2.17 sp-offset 00010040 00000000 class not" ∷
    codes "candidate 2.18 one-of 0001003C x9 007FFFF0 class not" ∷
    codes "candidate 2.19 less-than 0001003C x2 x9 class not" ∷
    codes "candidate 2.20 less-than 0001003C x8 x9 class not" ∷
    codes "candidate 2.21 less-than 0001003C x9 x2 class not" ∷
    codes "candidate 2.22 sp-offset 0001003C 00000000 class not" ∷
    codes "candidate 2.23 one-of 00010038 x2 007FFFF0 class not" ∷
    codes "candidate 2.24 one-of 00010038 x8 00000000 class not" ∷
    codes "candidate 2.25 less-than 00010038 x8 x2 class not" ∷
    codes "candidate 2.26 sp-offset 00010038 00000000 class not" ∷
    codes "candidate 2.27 one-of 00010034 x10 00000001,00000005,00000009 class not" ∷
    codes "candidate 2.28 one-of 00010034 x11 007FFFF0 class not" ∷
    codes "candidate 2.29 one-of 00010034 x12 00000002 class not" ∷
    codes "candidate 2.30 one-of 00010034 x17 0000005D class not" ∷
    codes "candidate 2.31 less-than 00010034 x8 x10 class not" ∷
    codes "candidate 2.32 less-than 00010034 x8 x11 class not" ∷
    codes "candidate 2.33 less-than 00010034 x8 x17 class not" ∷
    codes "candidate 2.34 less-than 00010034 x9 x10 class not" ∷
    codes "candidate 2.35 less-than 00010034 x9 x11 class not" ∷
    codes "candidate 2.36 less-than 00010034 x9 x12 class not" ∷
    codes "candidate 2.37 less-than 00010034 x9 x17 class not" ∷
    codes "candidate 2.38 less-than 00010034 x10 x11 class not" ∷
    codes "candidate 2.39 less-than 00010034 x10 x17 class not" ∷
    codes "candidate 2.40 less-than 00010034 x12 x11 class not" ∷
    codes "candidate 2.41 less-than 00010034 x12 x17 class not" ∷
    codes "candidate 2.42 less-than 00010034 x17 x11 class not" ∷
    codes "candidate 2.43 sp-offset 00010034 FFFFFFF0 class not" ∷
    codes "candidate 2.44 sp-offset 0001005C 00000000 class not" ∷
    codes "candidate 2.45 sp-offset 00010030 FFFFFFF0 class not" ∷
    codes "candidate 2.46 one-of 00010060 x2 00800000 class not" ∷
    codes "candidate 2.47 sp-offset 00010060 00000000 class not" ∷
    codes "candidate 2.48 one-of 0001002C x8 00000000,00000004,00000008 class not" ∷
    codes "candidate 2.49 less-than 0001002C x9 x8 class not" ∷
    codes "candidate 2.50 sp-offset 0001002C FFFFFFF0 class not" ∷
    codes "candidate 2.51 sp-offset 00010064 00000000 class not" ∷
    codes "candidate 2.52 one-of 00010028 x9 007FFFE8,007FFFEC,007FFFF0 class not" ∷
    codes "candidate 2.53 sp-offset 00010028 FFFFFFF0 class not" ∷
    codes "candidate 2.54 sp-offset 00010068 00000000 class not" ∷
    codes "candidate 2.55 one-of 00010024 x7 00010038,00010044 class not" ∷
    codes "candidate 2.56 less-than 00010024 x6 x7 class not" ∷
    codes "candidate 2.57 less-than 00010024 x7 x2 class not" ∷
    codes "candidate 2.58 sp-offset 00010024 FFFFFFF0 class not" ∷
    codes "candidate 2.59 one-of 0001006C x10 00000000 class not" ∷
    codes "candidate 2.60 one-of 0001006C x11 007FFFF0 class not" ∷
    codes "candidate 2.61 one-of 0001006C x12 00000002 class not" ∷
    codes "candidate 2.62 one-of 0001006C x17 0000003F class not" ∷
    codes "candidate 2.63 less-than 0001006C x10 x2 class not" ∷
    codes "repair 2.0 candidate 0 set x9 007FFFE8 wins 0 fails 0 score 1" ∷
    codes "repair 2.1 candidate 0 set x9 007FFFEC wins 0 fails 0 score 1" ∷
    codes "repair 2.2 candidate 0 return 00000000 wins 0 fails 0 score 1" ∷
    codes "repair 2.3 candidate 5 set x8 00000004 wins 0 fails 0 score 1" ∷
    codes "repair 2.4 candidate 5 set x8 00000008 wins 0 fails 0 score 1" ∷
    codes "repair 2.5 candidate 5 return 00000000 wins 0 fails 0 score 1" ∷
    codes "case 3 crash-unreadable 00010028 opened 8 checked 0 state checking" ∷
    codes "candidate 3.0 one-of 00010028 x9 007FFFE8,007FFFEC,007FFFF0 class pending" ∷
    codes "candidate 3.1 sp-offset 00010028 FFFFFFF0 class pending" ∷
    codes "candidate 3.2 one-of 00010024 x7 00010038,00010044 class pending" ∷
    codes "candidate 3.3 less-than 00010024 x6 x7 class pending" ∷
    codes "candidate 3.4 less-than 00010024 x7 x2 class pending" ∷
    codes "candidate 3.5 sp-offset 00010024 FFFFFFF0 class pending" ∷
    codes "candidate 3.6 one-of 0001002C x8 00000000,00000004,00000008 class pending" ∷
    codes "candidate 3.7 less-than 0001002C x9 x8 class pending" ∷
    codes "candidate 3.8 sp-offset 0001002C FFFFFFF0 class pending" ∷
    codes "candidate 3.9 one-of 00010020 x7 00010050,00010054 class pending" ∷
    codes "candidate 3.10 less-than 00010020 x6 x7 class pending" ∷
    codes "candidate 3.11 less-than 00010020 x7 x2 class pending" ∷
    codes "candidate 3.12 sp-offset 00010020 FFFFFFF0 class pending" ∷
    codes "candidate 3.13 sp-offset 00010030 FFFFFFF0 class pending" ∷
    codes "candidate 3.14 one-of 0001001C x6 00000000,00000004 class pending" ∷
    codes "candidate 3.15 one-of 0001001C x7 00010050 class pending" ∷
    codes "candidate 3.16 less-than 0001001C x6 x2 class pending" ∷
    codes "candidate 3.17 less-than 0001001C x6 x7 class pending" ∷
    codes "candidate 3.18 less-than 0001001C x7 x2 class pending" ∷
    codes "candidate 3.19 sp-offset 0001001C FFFFFFF0 class pending" ∷
    codes "candidate 3.20 one-of 00010034 x10 00000001,00000005,00000009 class pending" ∷
    codes "candidate 3.21 one-of 00010034 x11 007FFFF0 class pending" ∷
    codes "candidate 3.22 one-of 00010034 x12 00000002 class pending" ∷
    codes "candidate 3.23 one-of 00010034 x17 0000005D class pending" ∷
    codes "candidate 3.24 less-than 00010034 x8 x10 class pending" ∷
    codes "candidate 3.25 less-than 00010034 x8 x11 class pending" ∷
    codes "candidate 3.26 less-than 00010034 x8 x17 class pending" ∷
    codes "candidate 3.27 less-than 00010034 x9 x10 class pending" ∷
    codes "candidate 3.28 less-than 00010034 x9 x11 class pending" ∷
    codes "candidate 3.29 less-than 00010034 x9 x12 class pending" ∷
    codes "candidate 3.30 less-than 00010034 x9 x17 class pending" ∷
    codes "candidate 3.31 less-than 00010034 x10 x11 class pending" ∷
    codes "candidate 3.32 less-than 00010034 x10 x17 class pending" ∷
    codes "candidate 3.33 less-than 00010034 x12 x11 class pending" ∷
    codes "candidate 3.34 less-than 00010034 x12 x17 class pending" ∷
    codes "candidate 3.35 less-than 00010034 x17 x11 class pending" ∷
    codes "candidate 3.36 sp-offset 00010034 FFFFFFF0 class pending" ∷
    codes "candidate 3.37 one-of 00010018 x7 00010000 class pending" ∷
    codes "candidate 3.38 less-than 00010018 x6 x7 class pending" ∷
    codes "candidate 3.39 less-than 00010018 x7 x2 class pending" ∷
    codes "candidate 3.40 sp-offset 00010018 FFFFFFF0 class pending" ∷
    codes "candidate 3.41 one-of 00010038 x2 007FFFF0 class pending" ∷
    codes "candidate 3.42 one-of 00010038 x8 00000000 class pending" ∷
    codes "candidate 3.43 less-than 00010038 x8 x2 class pending" ∷
    codes "candidate 3.44 sp-offset 00010038 00000000 class pending" ∷
    codes "candidate 3.45 sp-offset 00010014 FFFFFFF0 class pending" ∷
    codes "candidate 3.46 one-of 0001003C x9 007FFFF0 class pending" ∷
    codes "candidate 3.47 less-than 0001003C x2 x9 class pending" ∷
    codes "candidate 3.48 less-than 0001003C x8 x9 class pending" ∷
    codes "candidate 3.49 less-than 0001003C x9 x2 class pending" ∷
    codes "candidate 3.50 sp-offset 0001003C 00000000 class pending" ∷
    codes "candidate 3.51 one-of 00010010 x6 00000000,00000001 class pending" ∷
    codes "candidate 3.52 less-than 00010010 x6 x2 class pending" ∷
    codes "candidate 3.53 sp-offset 00010010 FFFFFFF0 class pending" ∷
    codes "candidate 3.54 one-of 00010040 x5 00010028 class pending" ∷
    codes "candidate 3.55 less-than 00010040 x5 x2 class pending" ∷
    codes "candidate 3.56 less-than 00010040 x5 x9 class pending" ∷
    codes "candidate 3.57 less-than 00010040 x8 x5 class pending" ∷
    codes "candidate 3.58 sp-offset 00010040 00000000 class pending" ∷
    codes "candidate 3.59 one-of 0001000C x2 007FFFF0 class pending" ∷
    codes "candidate 3.60 sp-offset 0001000C FFFFFFF0 class pending" ∷
    codes "candidate 3.61 one-of 00010044 x2 007FFFF0 class pending" ∷
    codes "candidate 3.62 one-of 00010044 x8 00000004,00000008 class pending" ∷
    codes "candidate 3.63 less-than 00010044 x8 x2 class pending" ∷
    codes "install entry 5 case 0 repair 0" ∷
    codes "withdraw entry 6 case 0 repair 0" ∷
    codes "install entry 6 case 0 repair 1" ∷
    codes "withdraw entry 7 case 0 repair 1" ∷
    codes "install entry 7 case 0 repair 2" ∷
    codes "withdraw entry 8 case 0 repair 2" ∷
    codes "install entry 8 case 0 repair 3" ∷
    codes "withdraw entry 9 case 0 repair 3" ∷
    codes "install entry 9 case 0 repair 4" ∷
    codes "withdraw entry 10 case 0 repair 4" ∷
    codes "install entry 10 case 0 repair 5" ∷
    codes "withdraw entry 11 case 0 repair 5" ∷
    codes "install entry 11 case 0 repair 6" ∷
    codes "withdraw entry 12 case 0 repair 6" ∷
    codes "install entry 12 case 0 repair 7" ∷
    codes "withdraw entry 13 case 0 repair 7" ∷
    codes "install entry 13 case 0 repair 8" ∷
    codes "install entry 13 case 1 repair 0" ∷
    codes "withdraw entry 14 case 0 repair 8" ∷
    codes "install entry 14 case 0 repair 9" ∷
    codes "install entry 14 case 2 repair 0" ∷
    codes "withdraw entry 15 case 0 repair 9" ∷
    codes "install entry 15 case 0 repair 10" ∷
    codes "learned 100" ∷
    codes "end" ∷ [])

abbrev pub return_at_end_report : List ℕ
return_at_end_report = return_at_end_entries ++ return_at_end_cases ++ return_at_end_rest
