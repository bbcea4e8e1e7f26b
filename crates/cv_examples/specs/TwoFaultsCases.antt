-- Two failures, each with its case. The rest of its report.
use Rattle.std.specs.Prelude.{ℕ, List, [], ◌∷◌, codes}
use Rattle.std.specs.List.{flat_map}
use Rattle.cv_histories.specs.Report.{line}

abbrev pub two_faults_cases : List ℕ
two_faults_cases = flat_map line (
    codes "version 0 entry - patches 0" ∷
    codes "version 1 entry 5 patches 64" ∷
    codes "version 2 entry 6 patches 128" ∷
    codes "version 3 entry 11 patches 65" ∷
    codes "version 4 entry 12 patches 2" ∷
    codes "case 0 crash-unwritable 0001002C opened 5 checked 3 state installed:0" ∷
    codes "candidate 0.0 one-of 0001002C x7 00000000,00000002,00000004,00000006 class not" ∷
    codes "candidate 0.1 one-of 0001002C x8 007FFFE0,007FFFE4,007FFFE8,007FFFEC class highly" ∷
    codes "candidate 0.2 less-than 0001002C x6 x7 class highly" ∷
    codes "candidate 0.3 less-than 0001002C x6 x8 class not" ∷
    codes "candidate 0.4 less-than 0001002C x7 x2 class not" ∷
    codes "candidate 0.5 less-than 0001002C x7 x8 class not" ∷
    codes "candidate 0.6 less-than 0001002C x7 x13 class not" ∷
    codes "candidate 0.7 less-than 0001002C x8 x2 class highly" ∷
    codes "candidate 0.8 less-than 0001002C x13 x8 class not" ∷
    codes "candidate 0.9 sp-offset 0001002C 00000000 class not" ∷
    codes "candidate 0.10 one-of 00010028 x8 00000000,00000004,00000008,0000000C class highly" ∷
    codes "candidate 0.11 one-of 00010028 x13 007FFFE0 class not" ∷
    codes "candidate 0.12 less-than 00010028 x6 x8 class not" ∷
    codes "candidate 0.13 less-than 00010028 x6 x13 class not" ∷
    codes "candidate 0.14 less-than 00010028 x8 x2 class not" ∷
    codes "candidate 0.15 less-than 00010028 x8 x13 class not" ∷
    codes "candidate 0.16 less-than 00010028 x13 x2 class not" ∷
    codes "candidate 0.17 sp-offset 00010028 00000000 class not" ∷
    codes "candidate 0.18 one-of 00010030 x2 00800000 class not" ∷
    codes "candidate 0.19 one-of 00010030 x7 00000000,00000002,00000004,00000006 class not" ∷
    codes "candidate 0.20 less-than 00010030 x6 x2 class not" ∷
    codes "candidate 0.21 less-than 00010030 x6 x7 class not" ∷
    codes "candidate 0.22 less-than 00010030 x7 x2 class not" ∷
    codes "candidate 0.23 less-than 00010030 x7 x8 class not" ∷
    codes "candidate 0.24 less-than 00010030 x7 x13 class not" ∷
    codes "candidate 0.25 less-than 00010030 x8 x2 class not" ∷
    codes "candidate 0.26 less-than 00010030 x13 x2 class not" ∷
    codes "candidate 0.27 sp-offset 00010030 00000000 class not" ∷
    codes "candidate 0.28 one-of 00010024 x2 00800000 class not" ∷
    codes "candidate 0.29 less-than 00010024 x6 x2 class not" ∷
    codes "candidate 0.30 sp-offset 00010024 00000000 class not" ∷
    codes "candidate 0.31 one-of 00010034 x14 00800000,00800002,00800004,00800006 class not" ∷
    codes "candidate 0.32 less-than 00010034 x2 x14 class not" ∷
    codes "candidate 0.33 less-than 00010034 x6 x14 class not" ∷
    codes "candidate 0.34 less-than 00010034 x7 x14 class not" ∷
    codes "candidate 0.35 less-than 00010034 x8 x14 class not" ∷
    codes "candidate 0.36 less-than 00010034 x13 x14 class not" ∷
    codes "candidate 0.37 sp-offset 00010034 00000000 class not" ∷
    codes "candidate 0.38 one-of 00010020 x6 00000000,00000001,00000002,00000003 class highly" ∷
    codes "candidate 0.39 less-than 00010020 x6 x2 class not" ∷
    codes "candidate 0.40 sp-offset 00010020 00000000 class not" ∷
    codes "candidate 0.41 lower 00010038 x9 00000001 class not" ∷
    codes "candidate 0.42 less-than 00010038 x6 x9 class not" ∷
    codes "candidate 0.43 less-than 00010038 x9 x2 class not" ∷
    codes "candidate 0.44 less-than 00010038 x9 x8 class not" ∷
    codes "candidate 0.45 less-than 00010038 x9 x13 class not" ∷
    codes "candidate 0.46 less-than 00010038 x9 x14 class not" ∷
    codes "candidate 0.47 sp-offset 00010038 00000000 class not" ∷
    codes "candidate 0.48 one-of 0001001C x2 00800000 class not" ∷
    codes "candidate 0.49 sp-offset 0001001C 00000000 class not" ∷
    codes "candidate 0.50 sp-offset 0001003C 00000000 class not" ∷
    codes "candidate 0.51 one-of 00010018 x2 00800000 class not" ∷
    codes "candidate 0.52 sp-offset 00010018 00000000 class not" ∷
    codes "candidate 0.53 one-of 00010040 x11 007FFFF0 class not" ∷
    codes "candidate 0.54 one-of 00010040 x12 00000003 class not" ∷
    codes "candidate 0.55 one-of 00010040 x17 0000005D class not" ∷
    codes "candidate 0.56 lower 00010040 x10 00000002 class not" ∷
    codes "candidate 0.57 less-than 00010040 x7 x10 class not" ∷
    codes "candidate 0.58 less-than 00010040 x7 x11 class not" ∷
    codes "candidate 0.59 less-than 00010040 x7 x17 class not" ∷
    codes "candidate 0.60 less-than 00010040 x8 x11 class not" ∷
    codes "candidate 0.61 less-than 00010040 x9 x10 class not" ∷
    codes "candidate 0.62 less-than 00010040 x9 x11 class not" ∷
    codes "candidate 0.63 less-than 00010040 x9 x17 class not" ∷
    codes "repair 0.0 candidate 1 set x8 007FFFE0 wins 4 fails 0 score 5" ∷
    codes "repair 0.1 candidate 1 set x8 007FFFE4 wins 0 fails 0 score 1" ∷
    codes "repair 0.2 candidate 1 set x8 007FFFE8 wins 0 fails 0 score 1" ∷
    codes "repair 0.3 candidate 1 set x8 007FFFEC wins 0 fails 0 score 1" ∷
    codes "repair 0.4 candidate 1 return 00000000 wins 0 fails 0 score 1" ∷
    codes "repair 0.5 candidate 2 copy x7 x6 wins 0 fails 0 score 1" ∷
    codes "repair 0.6 candidate 2 return 00000000 wins 0 fails 0 score 1" ∷
    codes "repair 0.7 candidate 7 copy x8 x2 wins 0 fails 0 score 1" ∷
    codes "repair 0.8 candidate 7 return 00000000 wins 0 fails 0 score 1" ∷
    codes "repair 0.9 candidate 10 set x8 00000000 wins 0 fails 0 score 1" ∷
    codes "repair 0.10 candidate 10 set x8 00000004 wins 0 fails 0 score 1" ∷
    codes "repair 0.11 candidate 10 set x8 00000008 wins 0 fails 0 score 1" ∷
    codes "repair 0.12 candidate 10 set x8 0000000C wins 0 fails 0 score 1" ∷
    codes "repair 0.13 candidate 10 return 00000000 wins 0 fails 0 score 1" ∷
    codes "repair 0.14 candidate 38 set x6 00000000 wins 0 fails 0 score 1" ∷
    codes "repair 0.15 candidate 38 set x6 00000001 wins 0 fails 0 score 1" ∷
    codes "repair 0.16 candidate 38 set x6 00000002 wins 0 fails 0 score 1" ∷
    codes "repair 0.17 candidate 38 set x6 00000003 wins 0 fails 0 score 1" ∷
    codes "repair 0.18 candidate 38 return 00000000 wins 0 fails 0 score 1" ∷
    codes "case 1 crash-misaligned 00010034 opened 6 checked 3 state installed:0" ∷
    codes "candidate 1.0 one-of 00010034 x14 00800000,00800002,00800004,00800006 class highly" ∷
    codes "candidate 1.1 less-than 00010034 x2 x14 class not" ∷
    codes "candidate 1.2 less-than 00010034 x6 x14 class not" ∷
    codes "candidate 1.3 less-than 00010034 x7 x14 class not" ∷
    codes "candidate 1.4 less-than 00010034 x8 x14 class not" ∷
    codes "candidate 1.5 less-than 00010034 x13 x14 class not" ∷
    codes "candidate 1.6 sp-offset 00010034 00000000 class not" ∷
    codes "candidate 1.7 one-of 00010030 x2 00800000 class not" ∷
    codes "candidate 1.8 one-of 00010030 x7 00000000,00000002,00000004,00000006 class highly" ∷
    codes "candidate 1.9 less-than 00010030 x6 x2 class not" ∷
    codes "candidate 1.10 less-than 00010030 x6 x7 class not" ∷
    codes "candidate 1.11 less-than 00010030 x7 x2 class not" ∷
    codes "candidate 1.12 less-than 00010030 x7 x8 class not" ∷
    codes "candidate 1.13 less-than 00010030 x7 x13 class not" ∷
    codes "candidate 1.14 less-than 00010030 x8 x2 class not" ∷
    codes "candidate 1.15 less-than 00010030 x13 x2 class not" ∷
    codes "candidate 1.16 sp-offset 00010030 00000000 class not" ∷
    codes "candidate 1.17 lower 00010038 x9 00000001 class not" ∷
    codes "candidate 1.18 less-than 00010038 x6 x9 class not" ∷
    codes "candidate 1.19 less-than 00010038 x9 x2 class not" ∷
    codes "candidate 1.20 less-than 00010038 x9 x8 class not" ∷
    codes "candidate 1.21 less-than 00010038 x9 x13 class not" ∷
    codes "candidate 1.22 less-than 00010038 x9 x14 class not" ∷
    codes "candidate 1.23 sp-offset 00010038 00000000 class not" ∷
    codes "candidate 1.24 one-of 0001002C x7 00000000,00000002,00000004,00000006 class highly" ∷
    codes "candidate 1.25 one-of 0001002C x8 007FFFE0,007FFFE4,007FFFE8,007FFFEC class not" ∷
    codes "candidate 1.26 less-than 0001002C x6 x7 class not" ∷
    codes "candidate 1.27 less-than 0001002C x6 x8 class not" ∷
    codes "candidate 1.28 less-than 0001002C x7 x2 class not" ∷
    codes "candidate 1.29 less-than 0001002C x7 x8 class not" ∷
    codes "candidate 1.30 less-than 0001002C x7 x13 class not" ∷
    codes "candidate 1.31 less-than 0001002C x8 x2 class not" ∷
    codes "candidate 1.32 less-than 0001002C x13 x8 class not" ∷
    codes "candidate 1.33 sp-offset 0001002C 00000000 class not" ∷
    codes "candidate 1.34 sp-offset 0001003C 00000000 class not" ∷
    codes "candidate 1.35 one-of 00010028 x8 00000000,00000004,00000008,0000000C class not" ∷
    codes "candidate 1.36 one-of 00010028 x13 007FFFE0 class not" ∷
    codes "candidate 1.37 less-than 00010028 x6 x8 class not" ∷
    codes "candidate 1.38 less-than 00010028 x6 x13 class not" ∷
    codes "candidate 1.39 less-than 00010028 x8 x2 class not" ∷
    codes "candidate 1.40 less-than 00010028 x8 x13 class not" ∷
    codes "candidate 1.41 less-than 00010028 x13 x2 class not" ∷
    codes "candidate 1.42 sp-offset 00010028 00000000 class not" ∷
    codes "candidate 1.43 one-of 00010040 x11 007FFFF0 class not" ∷
    codes "candidate 1.44 one-of 00010040 x12 00000003 class not" ∷
    codes "candidate 1.45 one-of 00010040 x17 0000005D class not" ∷
    codes "candidate 1.46 lower 00010040 x10 00000002 class not" ∷
    codes "candidate 1.47 less-than 00010040 x7 x10 class not" ∷
    codes "candidate 1.48 less-than 00010040 x7 x11 class not" ∷
    codes "candidate 1.49 less-than 00010040 x7 x17 class not" ∷
    codes "candidate 1.50 less-than 00010040 x8 x11 class not" ∷
    codes "candidate 1.51 less-than 00010040 x9 x10 class not" ∷
    codes "candidate 1.52 less-than 00010040 x9 x11 class not" ∷
    codes "candidate 1.53 less-than 00010040 x9 x17 class not" ∷
    codes "candidate 1.54 less-than 00010040 x10 x2 class not" ∷
    codes "candidate 1.55 less-than 00010040 x10 x8 class not" ∷
    codes "candidate 1.56 less-than 00010040 x10 x11 class not" ∷
    codes "candidate 1.57 less-than 00010040 x10 x13 class not" ∷
    codes "candidate 1.58 less-than 00010040 x10 x14 class not" ∷
    codes "candidate 1.59 less-than 00010040 x10 x17 class not" ∷
    codes "candidate 1.60 less-than 00010040 x11 x2 class not" ∷
    codes "candidate 1.61 less-than 00010040 x11 x14 class not" ∷
    codes "candidate 1.62 less-than 00010040 x12 x2 class not" ∷
    codes "candidate 1.63 less-than 00010040 x12 x8 class not" ∷
    codes "repair 1.0 candidate 0 set x14 00800000 wins 4 fails 0 score 5" ∷
    codes "repair 1.1 candidate 0 set x14 00800002 wins 0 fails 0 score 1" ∷
    codes "repair 1.2 candidate 0 set x14 00800004 wins 0 fails 0 score 1" ∷
    codes "repair 1.3 candidate 0 set x14 00800006 wins 0 fails 0 score 1" ∷
    codes "repair 1.4 candidate 0 return 00000000 wins 0 fails 0 score 1" ∷
    codes "repair 1.5 candidate 8 set x7 00000000 wins 0 fails 0 score 1" ∷
    codes "repair 1.6 candidate 8 set x7 00000002 wins 0 fails 0 score 1" ∷
    codes "repair 1.7 candidate 8 set x7 00000004 wins 0 fails 0 score 1" ∷
    codes "repair 1.8 candidate 8 set x7 00000006 wins 0 fails 0 score 1" ∷
    codes "repair 1.9 candidate 8 return 00000000 wins 0 fails 0 score 1" ∷
    codes "repair 1.10 candidate 24 set x7 00000000 wins 0 fails 0 score 1" ∷
    codes "repair 1.11 candidate 24 set x7 00000002 wins 0 fails 0 score 1" ∷
    codes "repair 1.12 candidate 24 set x7 00000004 wins 0 fails 0 score 1" ∷
    codes "repair 1.13 candidate 24 set x7 00000006 wins 0 fails 0 score 1" ∷
    codes "repair 1.14 candidate 24 return 00000000 wins 0 fails 0 score 1" ∷
    codes "install entry 11 case 0 repair 0" ∷ [])
