-- A Return that fires and does nothing. The rest of its report.
use Rattle.std.specs.Prelude.{ℕ, List, [], ◌∷◌, codes}
use Rattle.std.specs.List.{flat_map}
use Rattle.cv_histories.specs.Report.{line}

abbrev pub return_at_end_cases : List ℕ
return_at_end_cases = flat_map line (
    codes "version 0 entry - patches 0" ∷
    codes "version 1 entry 3 patches 64" ∷
    codes "version 2 entry 5 patches 1" ∷
    codes "version 3 entry 6 patches 65" ∷
    codes "version 4 entry 7 patches 129" ∷
    codes "version 5 entry 8 patches 193" ∷
    codes "version 6 entry 9 patches 193" ∷
    codes "version 7 entry 10 patches 193" ∷
    codes "version 8 entry 11 patches 193" ∷
    codes "version 9 entry 12 patches 193" ∷
    codes "version 10 entry 13 patches 130" ∷
    codes "version 11 entry 14 patches 67" ∷
    codes "version 12 entry 15 patches 67" ∷
    codes "case 0 illegal-transfer 00010024 opened 3 checked 2 state installed:10" ∷
    codes "candidate 0.0 one-of 00010024 x7 00010038,00010044 class highly" ∷
    codes "candidate 0.1 less-than 00010024 x6 x7 class not" ∷
    codes "candidate 0.2 less-than 00010024 x7 x2 class not" ∷
    codes "candidate 0.3 sp-offset 00010024 FFFFFFF0 class not" ∷
    codes "candidate 0.4 one-of 00010020 x7 00010050,00010054 class highly" ∷
    codes "candidate 0.5 less-than 00010020 x6 x7 class not" ∷
    codes "candidate 0.6 less-than 00010020 x7 x2 class not" ∷
    codes "candidate 0.7 sp-offset 00010020 FFFFFFF0 class not" ∷
    codes "candidate 0.8 one-of 00010028 x9 007FFFE8,007FFFEC,007FFFF0 class not" ∷
    codes "candidate 0.9 sp-offset 00010028 FFFFFFF0 class not" ∷
    codes "candidate 0.10 one-of 0001001C x6 00000000,00000004 class highly" ∷
    codes "candidate 0.11 one-of 0001001C x7 00010050 class not" ∷
    codes "candidate 0.12 less-than 0001001C x6 x2 class not" ∷
    codes "candidate 0.13 less-than 0001001C x6 x7 class not" ∷
    codes "candidate 0.14 less-than 0001001C x7 x2 class not" ∷
    codes "candidate 0.15 sp-offset 0001001C FFFFFFF0 class not" ∷
    codes "candidate 0.16 one-of 0001002C x8 00000000,00000004,00000008 class not" ∷
    codes "candidate 0.17 less-than 0001002C x9 x8 class not" ∷
    codes "candidate 0.18 sp-offset 0001002C FFFFFFF0 class not" ∷
    codes "candidate 0.19 one-of 00010018 x7 00010000 class not" ∷
    codes "candidate 0.20 less-than 00010018 x6 x7 class not" ∷
    codes "candidate 0.21 less-than 00010018 x7 x2 class not" ∷
    codes "candidate 0.22 sp-offset 00010018 FFFFFFF0 class not" ∷
    codes "candidate 0.23 sp-offset 00010030 FFFFFFF0 class not" ∷
    codes "candidate 0.24 sp-offset 00010014 FFFFFFF0 class not" ∷
    codes "candidate 0.25 one-of 00010034 x10 00000001,00000005,00000009 class not" ∷
    codes "candidate 0.26 one-of 00010034 x11 007FFFF0 class not" ∷
    codes "candidate 0.27 one-of 00010034 x12 00000002 class not" ∷
    codes "candidate 0.28 one-of 00010034 x17 0000005D class not" ∷
    codes "candidate 0.29 less-than 00010034 x8 x10 class not" ∷
    codes "candidate 0.30 less-than 00010034 x8 x11 class not" ∷
    codes "candidate 0.31 less-than 00010034 x8 x17 class not" ∷
    codes "candidate 0.32 less-than 00010034 x9 x10 class not" ∷
    codes "candidate 0.33 less-than 00010034 x9 x11 class not" ∷
    codes "candidate 0.34 less-than 00010034 x9 x12 class not" ∷
    codes "candidate 0.35 less-than 00010034 x9 x17 class not" ∷
    codes "candidate 0.36 less-than 00010034 x10 x11 class not" ∷
    codes "candidate 0.37 less-than 00010034 x10 x17 class not" ∷
    codes "candidate 0.38 less-than 00010034 x12 x11 class not" ∷
    codes "candidate 0.39 less-than 00010034 x12 x17 class not" ∷
    codes "candidate 0.40 less-than 00010034 x17 x11 class not" ∷
    codes "candidate 0.41 sp-offset 00010034 FFFFFFF0 class not" ∷
    codes "candidate 0.42 one-of 00010010 x6 00000000,00000001 class highly" ∷
    codes "candidate 0.43 less-than 00010010 x6 x2 class not" ∷
    codes "candidate 0.44 sp-offset 00010010 FFFFFFF0 class not" ∷
    codes "candidate 0.45 one-of 00010038 x2 007FFFF0 class not" ∷
    codes "candidate 0.46 one-of 00010038 x8 00000000 class not" ∷
    codes "candidate 0.47 less-than 00010038 x8 x2 class not" ∷
    codes "candidate 0.48 sp-offset 00010038 00000000 class not" ∷
    codes "candidate 0.49 one-of 0001000C x2 007FFFF0 class not" ∷
    codes "candidate 0.50 sp-offset 0001000C FFFFFFF0 class not" ∷
    codes "candidate 0.51 one-of 0001003C x9 007FFFF0 class not" ∷
    codes "candidate 0.52 less-than 0001003C x2 x9 class not" ∷
    codes "candidate 0.53 less-than 0001003C x8 x9 class not" ∷
    codes "candidate 0.54 less-than 0001003C x9 x2 class not" ∷
    codes "candidate 0.55 sp-offset 0001003C 00000000 class not" ∷
    codes "candidate 0.56 one-of 00010008 x2 007FFFF0 class not" ∷
    codes "candidate 0.57 sp-offset 00010008 FFFFFFF0 class not" ∷
    codes "candidate 0.58 one-of 00010040 x5 00010028 class not" ∷
    codes "candidate 0.59 less-than 00010040 x5 x2 class not" ∷
    codes "candidate 0.60 less-than 00010040 x5 x9 class not" ∷
    codes "candidate 0.61 less-than 00010040 x8 x5 class not" ∷
    codes "candidate 0.62 sp-offset 00010040 00000000 class not" ∷
    codes "candidate 0.63 one-of 00010004 x2 00800000 class not" ∷
    codes "repair 0.0 candidate 0 set x7 00010038 wins 0 fails 1 score -1" ∷
    codes "repair 0.1 candidate 0 set x7 00010044 wins 0 fails 1 score -1" ∷
    codes "repair 0.2 candidate 0 skip wins 0 fails 1 score -1" ∷
    codes "repair 0.3 candidate 0 return FFFFFFF0 wins 0 fails 1 score -1" ∷
    codes "repair 0.4 candidate 4 set x7 00010050 wins 0 fails 1 score -1" ∷
    codes "repair 0.5 candidate 4 set x7 00010054 wins 0 fails 1 score -1" ∷
    codes "repair 0.6 candidate 4 return FFFFFFF0 wins 0 fails 1 score -1" ∷
    codes "repair 0.7 candidate 10 set x6 00000000 wins 0 fails 1 score -1" ∷
    codes "repair 0.8 candidate 10 set x6 00000004 wins 0 fails 1 score -1" ∷
    codes "repair 0.9 candidate 10 return FFFFFFF0 wins 0 fails 1 score -1" ∷
    codes "repair 0.10 candidate 42 set x6 00000000 wins 1 fails 0 score 2" ∷
    codes "repair 0.11 candidate 42 set x6 00000001 wins 0 fails 0 score 1" ∷
    codes "repair 0.12 candidate 42 return FFFFFFF0 wins 0 fails 0 score 1" ∷
    codes "case 1 crash-misaligned 0001003C opened 6 checked 2 state installed:0" ∷
    codes "candidate 1.0 one-of 0001003C x9 007FFFF0 class highly" ∷
    codes "candidate 1.1 less-than 0001003C x2 x9 class not" ∷
    codes "candidate 1.2 less-than 0001003C x8 x9 class not" ∷
    codes "candidate 1.3 less-than 0001003C x9 x2 class highly" ∷
    codes "candidate 1.4 sp-offset 0001003C 00000000 class not" ∷
    codes "candidate 1.5 one-of 00010038 x2 007FFFF0 class not" ∷
    codes "candidate 1.6 one-of 00010038 x8 00000000 class highly" ∷
    codes "candidate 1.7 less-than 00010038 x8 x2 class not" ∷
    codes "candidate 1.8 sp-offset 00010038 00000000 class not" ∷
    codes "candidate 1.9 one-of 00010040 x5 00010028 class not" ∷
    codes "candidate 1.10 less-than 00010040 x5 x2 class not" ∷
    codes "candidate 1.11 less-than 00010040 x5 x9 class not" ∷
    codes "candidate 1.12 less-than 00010040 x8 x5 class not" ∷
    codes "candidate 1.13 sp-offset 00010040 00000000 class not" ∷
    codes "candidate 1.14 one-of 00010034 x10 00000001,00000005,00000009 class not" ∷
    codes "candidate 1.15 one-of 00010034 x11 007FFFF0 class not" ∷
    codes "candidate 1.16 one-of 00010034 x12 00000002 class not" ∷
    codes "candidate 1.17 one-of 00010034 x17 0000005D class not" ∷
    codes "candidate 1.18 less-than 00010034 x8 x10 class not" ∷
    codes "candidate 1.19 less-than 00010034 x8 x11 class not" ∷
    codes "candidate 1.20 less-than 00010034 x8 x17 class not" ∷
    codes "candidate 1.21 less-than 00010034 x9 x10 class not" ∷
    codes "candidate 1.22 less-than 00010034 x9 x11 class not" ∷
    codes "candidate 1.23 less-than 00010034 x9 x12 class not" ∷
    codes "candidate 1.24 less-than 00010034 x9 x17 class not" ∷
    codes "candidate 1.25 less-than 00010034 x10 x11 class not" ∷
    codes "candidate 1.26 less-than 00010034 x10 x17 class not" ∷
    codes "candidate 1.27 less-than 00010034 x12 x11 class not" ∷
    codes "candidate 1.28 less-than 00010034 x12 x17 class not" ∷
    codes "candidate 1.29 less-than 00010034 x17 x11 class not" ∷
    codes "candidate 1.30 sp-offset 00010034 FFFFFFF0 class not" ∷
    codes "candidate 1.31 one-of 00010044 x2 007FFFF0 class not" ∷
    codes "candidate 1.32 one-of 00010044 x8 00000004,00000008 class not" ∷
    codes "candidate 1.33 less-than 00010044 x8 x2 class not" ∷
    codes "candidate 1.34 sp-offset 00010044 00000000 class not" ∷
    codes "candidate 1.35 sp-offset 00010030 FFFFFFF0 class not" ∷
    codes "candidate 1.36 one-of 00010048 x9 007FFFE8,007FFFEC class not" ∷
    codes "candidate 1.37 less-than 00010048 x8 x9 class not" ∷
    codes "candidate 1.38 less-than 00010048 x9 x2 class not" ∷
    codes "candidate 1.39 sp-offset 00010048 00000000 class not" ∷
    codes "candidate 1.40 one-of 0001002C x8 00000000,00000004,00000008 class not" ∷
    codes "candidate 1.41 less-than 0001002C x9 x8 class not" ∷
    codes "candidate 1.42 sp-offset 0001002C FFFFFFF0 class not" ∷
    codes "candidate 1.43 one-of 0001004C x5 00010028 class not" ∷
    codes "candidate 1.44 less-than 0001004C x5 x2 class not" ∷
    codes "candidate 1.45 less-than 0001004C x5 x9 class not" ∷
    codes "candidate 1.46 less-than 0001004C x8 x5 class not" ∷
    codes "candidate 1.47 sp-offset 0001004C 00000000 class not" ∷
    codes "candidate 1.48 one-of 00010028 x9 007FFFE8,007FFFEC,007FFFF0 class not" ∷
    codes "candidate 1.49 sp-offset 00010028 FFFFFFF0 class not" ∷
    codes "candidate 1.50 one-of 00010024 x7 00010038,00010044 class not" ∷
    codes "candidate 1.51 less-than 00010024 x6 x7 class not" ∷
    codes "candidate 1.52 less-than 00010024 x7 x2 class not" ∷
    codes "candidate 1.53 sp-offset 00010024 FFFFFFF0 class not" ∷
    codes "candidate 1.54 one-of 00010020 x7 00010050,00010054 class not" ∷
    codes "candidate 1.55 less-than 00010020 x6 x7 class not" ∷
    codes "candidate 1.56 less-than 00010020 x7 x2 class not" ∷
    codes "candidate 1.57 sp-offset 00010020 FFFFFFF0 class not" ∷
    codes "candidate 1.58 one-of 0001001C x6 00000000,00000004 class slightly" ∷
    codes "candidate 1.59 one-of 0001001C x7 00010050 class not" ∷
    codes "candidate 1.60 less-than 0001001C x6 x2 class not" ∷
    codes "candidate 1.61 less-than 0001001C x6 x7 class not" ∷
    codes "candidate 1.62 less-than 0001001C x7 x2 class not" ∷
    codes "candidate 1.63 sp-offset 0001001C FFFFFFF0 class not" ∷
    codes "repair 1.0 candidate 0 set x9 007FFFF0 wins 0 fails 0 score 1" ∷
    codes "repair 1.1 candidate 0 return 00000000 wins 0 fails 0 score 1" ∷
    codes "repair 1.2 candidate 3 copy x9 x2 wins 0 fails 0 score 1" ∷
    codes "repair 1.3 candidate 3 return 00000000 wins 0 fails 0 score 1" ∷
    codes "repair 1.4 candidate 6 set x8 00000000 wins 0 fails 0 score 1" ∷
    codes "repair 1.5 candidate 6 return 00000000 wins 0 fails 0 score 1" ∷
    codes "case 2 crash-misaligned 00010048 opened 7 checked 2 state installed:0" ∷
    codes "candidate 2.0 one-of 00010048 x9 007FFFE8,007FFFEC class highly" ∷
    codes "candidate 2.1 less-than 00010048 x8 x9 class not" ∷
    codes "candidate 2.2 less-than 00010048 x9 x2 class not" ∷
    codes "candidate 2.3 sp-offset 00010048 00000000 class not" ∷
    codes "candidate 2.4 one-of 00010044 x2 007FFFF0 class not" ∷
    codes "candidate 2.5 one-of 00010044 x8 00000004,00000008 class highly" ∷
    codes "candidate 2.6 less-than 00010044 x8 x2 class not" ∷ [])
