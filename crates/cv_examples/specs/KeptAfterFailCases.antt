-- A repair that fails and stays. The rest of its report.
use Rattle.std.specs.Prelude.{ℕ, List, [], ◌∷◌, codes}
use Rattle.std.specs.List.{flat_map}
use Rattle.cv_histories.specs.Report.{line}

abbrev pub kept_after_fail_cases : List ℕ
kept_after_fail_cases = flat_map line (
    codes "version 0 entry - patches 0" ∷
    codes "version 1 entry 3 patches 64" ∷
    codes "version 2 entry 7 patches 1" ∷
    codes "version 3 entry 11 patches 65" ∷
    codes "version 4 entry 13 patches 65" ∷
    codes "version 5 entry 14 patches 65" ∷
    codes "version 6 entry 17 patches 2" ∷
    codes "case 0 crash-unwritable 00010028 opened 3 checked 4 state installed:2" ∷
    codes "candidate 0.0 one-of 00010028 x8 007FFFD8,007FFFF0,007FFFF8 class highly" ∷
    codes "candidate 0.1 one-of 00010028 x9 00000000,00000001,00000003 class highly" ∷
    codes "candidate 0.2 less-than 00010028 x6 x8 class not" ∷
    codes "candidate 0.3 less-than 00010028 x8 x2 class not" ∷
    codes "candidate 0.4 less-than 00010028 x9 x2 class not" ∷
    codes "candidate 0.5 less-than 00010028 x9 x6 class highly" ∷
    codes "candidate 0.6 less-than 00010028 x9 x8 class not" ∷
    codes "candidate 0.7 sp-offset 00010028 00000000 class not" ∷
    codes "candidate 0.8 one-of 00010024 x2 00800000 class not" ∷
    codes "candidate 0.9 one-of 00010024 x8 00000008,00000010,00000028 class highly" ∷
    codes "candidate 0.10 less-than 00010024 x6 x2 class not" ∷
    codes "candidate 0.11 less-than 00010024 x6 x8 class not" ∷
    codes "candidate 0.12 less-than 00010024 x8 x2 class not" ∷
    codes "candidate 0.13 sp-offset 00010024 00000000 class not" ∷
    codes "candidate 0.14 one-of 0001002C x2 00800000 class not" ∷
    codes "candidate 0.15 one-of 0001002C x7 00000000,00000004,00000008 class not" ∷
    codes "candidate 0.16 less-than 0001002C x6 x2 class not" ∷
    codes "candidate 0.17 less-than 0001002C x7 x2 class not" ∷
    codes "candidate 0.18 less-than 0001002C x7 x8 class not" ∷
    codes "candidate 0.19 less-than 0001002C x8 x2 class not" ∷
    codes "candidate 0.20 less-than 0001002C x9 x2 class not" ∷
    codes "candidate 0.21 sp-offset 0001002C 00000000 class not" ∷
    codes "candidate 0.22 one-of 00010020 x6 00000001,00000002,00000005 class highly" ∷
    codes "candidate 0.23 less-than 00010020 x6 x2 class not" ∷
    codes "candidate 0.24 sp-offset 00010020 00000000 class not" ∷
    codes "candidate 0.25 one-of 00010030 x13 00800000,00800004,00800008 class not" ∷
    codes "candidate 0.26 less-than 00010030 x2 x13 class not" ∷
    codes "candidate 0.27 less-than 00010030 x6 x13 class not" ∷
    codes "candidate 0.28 less-than 00010030 x7 x13 class not" ∷
    codes "candidate 0.29 less-than 00010030 x8 x13 class not" ∷
    codes "candidate 0.30 less-than 00010030 x9 x13 class not" ∷
    codes "candidate 0.31 sp-offset 00010030 00000000 class not" ∷
    codes "candidate 0.32 one-of 0001001C x2 00800000 class not" ∷
    codes "candidate 0.33 sp-offset 0001001C 00000000 class not" ∷
    codes "candidate 0.34 one-of 00010034 x9 00000000,00000001,00000003 class not" ∷
    codes "candidate 0.35 less-than 00010034 x9 x2 class not" ∷
    codes "candidate 0.36 less-than 00010034 x9 x6 class not" ∷
    codes "candidate 0.37 less-than 00010034 x9 x8 class not" ∷
    codes "candidate 0.38 less-than 00010034 x9 x13 class not" ∷
    codes "candidate 0.39 sp-offset 00010034 00000000 class not" ∷
    codes "candidate 0.40 one-of 00010018 x2 00800000 class not" ∷
    codes "candidate 0.41 sp-offset 00010018 00000000 class not" ∷
    codes "candidate 0.42 sp-offset 00010038 00000000 class not" ∷
    codes "candidate 0.43 one-of 00010014 x2 00800000 class not" ∷
    codes "candidate 0.44 sp-offset 00010014 00000000 class not" ∷
    codes "candidate 0.45 one-of 0001003C x10 00000000,00000001,00000003 class not" ∷
    codes "candidate 0.46 one-of 0001003C x11 007FFFF0 class not" ∷
    codes "candidate 0.47 one-of 0001003C x12 00000003 class not" ∷
    codes "candidate 0.48 one-of 0001003C x17 0000005D class not" ∷
    codes "candidate 0.49 less-than 0001003C x6 x11 class not" ∷
    codes "candidate 0.50 less-than 0001003C x6 x17 class not" ∷
    codes "candidate 0.51 less-than 0001003C x7 x11 class not" ∷
    codes "candidate 0.52 less-than 0001003C x7 x17 class not" ∷
    codes "candidate 0.53 less-than 0001003C x9 x10 class not" ∷
    codes "candidate 0.54 less-than 0001003C x9 x11 class not" ∷
    codes "candidate 0.55 less-than 0001003C x9 x12 class not" ∷
    codes "candidate 0.56 less-than 0001003C x9 x17 class not" ∷
    codes "candidate 0.57 less-than 0001003C x10 x2 class not" ∷
    codes "candidate 0.58 less-than 0001003C x10 x6 class not" ∷
    codes "candidate 0.59 less-than 0001003C x10 x8 class not" ∷
    codes "candidate 0.60 less-than 0001003C x10 x9 class not" ∷
    codes "candidate 0.61 less-than 0001003C x10 x11 class not" ∷
    codes "candidate 0.62 less-than 0001003C x10 x12 class not" ∷
    codes "candidate 0.63 less-than 0001003C x10 x13 class not" ∷
    codes "repair 0.0 candidate 0 set x8 007FFFD8 wins 3 fails 3 score 0" ∷
    codes "repair 0.1 candidate 0 set x8 007FFFF0 wins 0 fails 1 score -1" ∷
    codes "repair 0.2 candidate 0 set x8 007FFFF8 wins 7 fails 1 score 6" ∷
    codes "repair 0.3 candidate 0 return 00000000 wins 0 fails 0 score 1" ∷
    codes "repair 0.4 candidate 1 set x9 00000000 wins 0 fails 0 score 1" ∷
    codes "repair 0.5 candidate 1 set x9 00000001 wins 0 fails 0 score 1" ∷
    codes "repair 0.6 candidate 1 set x9 00000003 wins 0 fails 0 score 1" ∷
    codes "repair 0.7 candidate 1 return 00000000 wins 0 fails 0 score 1" ∷
    codes "repair 0.8 candidate 5 copy x9 x6 wins 0 fails 0 score 1" ∷
    codes "repair 0.9 candidate 5 return 00000000 wins 0 fails 0 score 1" ∷
    codes "repair 0.10 candidate 9 set x8 00000008 wins 0 fails 0 score 1" ∷
    codes "repair 0.11 candidate 9 set x8 00000010 wins 0 fails 0 score 1" ∷
    codes "repair 0.12 candidate 9 set x8 00000028 wins 0 fails 0 score 1" ∷
    codes "repair 0.13 candidate 9 return 00000000 wins 0 fails 0 score 1" ∷
    codes "repair 0.14 candidate 22 set x6 00000001 wins 0 fails 0 score 1" ∷
    codes "repair 0.15 candidate 22 set x6 00000002 wins 0 fails 0 score 1" ∷
    codes "repair 0.16 candidate 22 set x6 00000005 wins 0 fails 0 score 1" ∷
    codes "repair 0.17 candidate 22 return 00000000 wins 0 fails 0 score 1" ∷
    codes "case 1 crash-misaligned 00010030 opened 11 checked 4 state installed:0" ∷
    codes "candidate 1.0 one-of 00010030 x13 00800000,00800004,00800008 class highly" ∷
    codes "candidate 1.1 less-than 00010030 x2 x13 class not" ∷
    codes "candidate 1.2 less-than 00010030 x6 x13 class not" ∷
    codes "candidate 1.3 less-than 00010030 x7 x13 class not" ∷
    codes "candidate 1.4 less-than 00010030 x8 x13 class not" ∷
    codes "candidate 1.5 less-than 00010030 x9 x13 class not" ∷
    codes "candidate 1.6 sp-offset 00010030 00000000 class not" ∷
    codes "candidate 1.7 one-of 0001002C x2 00800000 class not" ∷
    codes "candidate 1.8 one-of 0001002C x7 00000000,00000004,00000008 class highly" ∷
    codes "candidate 1.9 less-than 0001002C x6 x2 class not" ∷
    codes "candidate 1.10 less-than 0001002C x7 x2 class not" ∷
    codes "candidate 1.11 less-than 0001002C x7 x8 class not" ∷
    codes "candidate 1.12 less-than 0001002C x8 x2 class not" ∷
    codes "candidate 1.13 less-than 0001002C x9 x2 class not" ∷
    codes "candidate 1.14 sp-offset 0001002C 00000000 class not" ∷
    codes "candidate 1.15 one-of 00010034 x9 00000000,00000001,00000003 class not" ∷
    codes "candidate 1.16 less-than 00010034 x9 x2 class not" ∷
    codes "candidate 1.17 less-than 00010034 x9 x6 class not" ∷
    codes "candidate 1.18 less-than 00010034 x9 x8 class not" ∷
    codes "candidate 1.19 less-than 00010034 x9 x13 class not" ∷
    codes "candidate 1.20 sp-offset 00010034 00000000 class not" ∷
    codes "candidate 1.21 one-of 00010028 x8 007FFFD8,007FFFF0,007FFFF8 class not" ∷
    codes "candidate 1.22 one-of 00010028 x9 00000000,00000001,00000003 class highly" ∷
    codes "candidate 1.23 less-than 00010028 x6 x8 class not" ∷
    codes "candidate 1.24 less-than 00010028 x8 x2 class not" ∷
    codes "candidate 1.25 less-than 00010028 x9 x2 class not" ∷
    codes "candidate 1.26 less-than 00010028 x9 x6 class highly" ∷
    codes "candidate 1.27 less-than 00010028 x9 x8 class not" ∷
    codes "candidate 1.28 sp-offset 00010028 00000000 class not" ∷
    codes "candidate 1.29 sp-offset 00010038 00000000 class not" ∷
    codes "candidate 1.30 one-of 00010024 x2 00800000 class not" ∷
    codes "candidate 1.31 one-of 00010024 x8 00000008,00000010,00000028 class highly" ∷
    codes "candidate 1.32 less-than 00010024 x6 x2 class not" ∷
    codes "candidate 1.33 less-than 00010024 x6 x8 class not" ∷
    codes "candidate 1.34 less-than 00010024 x8 x2 class not" ∷
    codes "candidate 1.35 sp-offset 00010024 00000000 class not" ∷
    codes "candidate 1.36 one-of 0001003C x10 00000000,00000001,00000003 class not" ∷
    codes "candidate 1.37 one-of 0001003C x11 007FFFF0 class not" ∷
    codes "candidate 1.38 one-of 0001003C x12 00000003 class not" ∷
    codes "candidate 1.39 one-of 0001003C x17 0000005D class not" ∷
    codes "candidate 1.40 less-than 0001003C x6 x11 class not" ∷
    codes "candidate 1.41 less-than 0001003C x6 x17 class not" ∷
    codes "candidate 1.42 less-than 0001003C x7 x11 class not" ∷
    codes "candidate 1.43 less-than 0001003C x7 x17 class not" ∷
    codes "candidate 1.44 less-than 0001003C x9 x10 class not" ∷
    codes "candidate 1.45 less-than 0001003C x9 x11 class not" ∷
    codes "candidate 1.46 less-than 0001003C x9 x12 class not" ∷
    codes "candidate 1.47 less-than 0001003C x9 x17 class not" ∷
    codes "candidate 1.48 less-than 0001003C x10 x2 class not" ∷
    codes "candidate 1.49 less-than 0001003C x10 x6 class not" ∷
    codes "candidate 1.50 less-than 0001003C x10 x8 class not" ∷
    codes "candidate 1.51 less-than 0001003C x10 x9 class not" ∷
    codes "candidate 1.52 less-than 0001003C x10 x11 class not" ∷
    codes "candidate 1.53 less-than 0001003C x10 x12 class not" ∷
    codes "candidate 1.54 less-than 0001003C x10 x13 class not" ∷
    codes "candidate 1.55 less-than 0001003C x10 x17 class not" ∷
    codes "candidate 1.56 less-than 0001003C x11 x2 class not" ∷
    codes "candidate 1.57 less-than 0001003C x11 x13 class not" ∷
    codes "candidate 1.58 less-than 0001003C x12 x2 class not" ∷
    codes "candidate 1.59 less-than 0001003C x12 x8 class not" ∷
    codes "candidate 1.60 less-than 0001003C x12 x11 class not" ∷
    codes "candidate 1.61 less-than 0001003C x12 x13 class not" ∷
    codes "candidate 1.62 less-than 0001003C x12 x17 class not" ∷
    codes "candidate 1.63 less-than 0001003C x17 x2 class not" ∷
    codes "repair 1.0 candidate 0 set x13 00800000 wins 3 fails 0 score 4" ∷
    codes "repair 1.1 candidate 0 set x13 00800004 wins 0 fails 0 score 1" ∷
    codes "repair 1.2 candidate 0 set x13 00800008 wins 0 fails 0 score 1" ∷
    codes "repair 1.3 candidate 0 return 00000000 wins 0 fails 0 score 1" ∷
    codes "repair 1.4 candidate 8 set x7 00000000 wins 0 fails 0 score 1" ∷
    codes "repair 1.5 candidate 8 set x7 00000004 wins 0 fails 0 score 1" ∷
    codes "repair 1.6 candidate 8 set x7 00000008 wins 0 fails 0 score 1" ∷
    codes "repair 1.7 candidate 8 return 00000000 wins 0 fails 0 score 1" ∷
    codes "repair 1.8 candidate 22 set x9 00000000 wins 0 fails 0 score 1" ∷
    codes "repair 1.9 candidate 22 set x9 00000001 wins 0 fails 0 score 1" ∷
    codes "repair 1.10 candidate 22 set x9 00000003 wins 0 fails 0 score 1" ∷
    codes "repair 1.11 candidate 22 return 00000000 wins 0 fails 0 score 1" ∷
    codes "repair 1.12 candidate 26 copy x9 x6 wins 0 fails 0 score 1" ∷
    codes "repair 1.13 candidate 26 return 00000000 wins 0 fails 0 score 1" ∷
    codes "repair 1.14 candidate 31 set x8 00000008 wins 0 fails 0 score 1" ∷ [])
