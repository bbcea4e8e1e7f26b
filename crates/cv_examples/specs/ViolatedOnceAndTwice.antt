-- A candidate violated once in one run and twice in the other.
use Rattle.std.specs.Prelude.{ℕ, List, [], ◌∷◌, codes}
use Rattle.std.specs.List.{flat_map}
use Rattle.cv_base.specs.declared.plan.Mode.TheVariants.{Learn, Live}
use Rattle.cv_base.specs.PlanOf.{PlanOf}
use Rattle.cv_histories.specs.DrillPlan.{flat_image}
use Rattle.cv_histories.specs.Report.{line}

abbrev pub violated_once_and_twice_words : List ℕ
violated_once_and_twice_words =
    0x00000513 ∷ 0xff010593 ∷ 0x00800613 ∷ 0x03f00893 ∷ 0x00000073 ∷ 0xff014383 ∷ 0xff110413 ∷ 0x007404b3 ∷
    0x00000693 ∷ 0x00040303 ∷ 0x006686b3 ∷ 0x00140413 ∷ 0xfe941ae3 ∷ 0x04d00713 ∷ 0x00e68863 ∷ 0x00068513 ∷
    0x05d00893 ∷ 0x00000073 ∷ 0x00100073 ∷ []

abbrev pub violated_once_and_twice_plan : PlanOf
violated_once_and_twice_plan = record {
  image = flat_image violated_once_and_twice_words;
  workers = 1;
  checks = 2;
  budget = 40;
  rounds =
      record { mode = Learn; inputs = (1 ∷ 0 ∷ 0 ∷ 0 ∷ 0 ∷ 0 ∷ 0 ∷ 0 ∷ []) ∷ (3 ∷ 100 ∷ 0 ∷ 3 ∷ 0 ∷ 0 ∷ 0 ∷ 0 ∷ []) ∷ (5 ∷ 1 ∷ 2 ∷ 3 ∷ 4 ∷ 5 ∷ 0 ∷ 0 ∷ []) ∷ (6 ∷ 120 ∷ 7 ∷ 0 ∷ 90 ∷ 8 ∷ 1 ∷ 0 ∷ []) ∷ (1 ∷ 44 ∷ 0 ∷ 0 ∷ 0 ∷ 0 ∷ 0 ∷ 0 ∷ []) ∷ (3 ∷ 0 ∷ 9 ∷ 1 ∷ 0 ∷ 0 ∷ 0 ∷ 0 ∷ []) ∷ [] } ∷
      record { mode = Live; inputs = (3 ∷ 80 ∷ 255 ∷ 254 ∷ 0 ∷ 0 ∷ 0 ∷ 0 ∷ []) ∷ (2 ∷ 78 ∷ 255 ∷ 0 ∷ 0 ∷ 0 ∷ 0 ∷ 0 ∷ []) ∷ (3 ∷ 80 ∷ 255 ∷ 254 ∷ 0 ∷ 0 ∷ 0 ∷ 0 ∷ []) ∷ (3 ∷ 90 ∷ 252 ∷ 247 ∷ 0 ∷ 0 ∷ 0 ∷ 0 ∷ []) ∷ (3 ∷ 100 ∷ 253 ∷ 236 ∷ 0 ∷ 0 ∷ 0 ∷ 0 ∷ []) ∷ (2 ∷ 79 ∷ 254 ∷ 0 ∷ 0 ∷ 0 ∷ 0 ∷ 0 ∷ []) ∷ (3 ∷ 255 ∷ 253 ∷ 81 ∷ 0 ∷ 0 ∷ 0 ∷ 0 ∷ []) ∷ (1 ∷ 77 ∷ 0 ∷ 0 ∷ 0 ∷ 0 ∷ 0 ∷ 0 ∷ []) ∷ (7 ∷ 60 ∷ 253 ∷ 20 ∷ 1 ∷ 1 ∷ 1 ∷ 1 ∷ []) ∷ (2 ∷ 80 ∷ 253 ∷ 0 ∷ 0 ∷ 0 ∷ 0 ∷ 0 ∷ []) ∷ (7 ∷ 60 ∷ 253 ∷ 20 ∷ 1 ∷ 1 ∷ 1 ∷ 251 ∷ []) ∷ [] } ∷ [];
}

abbrev pub violated_once_and_twice_report : List ℕ
violated_once_and_twice_report = flat_map line (
    codes "clearview report 2" ∷
    codes "job workers 1 checks 2 budget 40 rounds 2 runs 17" ∷
    codes "entry 0 run 0 worker 0 mode learn adopted - end exit:0 turns 18 sites - output - tally - fired -" ∷
    codes "entry 1 run 1 worker 0 mode learn adopted - end exit:103 turns 26 sites - output - tally - fired -" ∷
    codes "entry 2 run 2 worker 0 mode learn adopted - end exit:15 turns 34 sites - output - tally - fired -" ∷
    codes "entry 3 run 3 worker 0 mode learn adopted - end exit:226 turns 38 sites - output - tally - fired -" ∷
    codes "entry 4 run 4 worker 0 mode learn adopted - end exit:44 turns 18 sites - output - tally - fired -" ∷
    codes "entry 5 run 5 worker 0 mode learn adopted - end exit:10 turns 26 sites - output - tally - fired -" ∷
    codes "entry 6 run 6 worker 0 mode live adopted 0:6 end failure:crash-break:00010048:00000000 turns 24 sites 00010048 output - tally - fired -" ∷
    codes "entry 7 run 7 worker 0 mode live adopted 1:5 end failure:crash-break:00010048:00000000 turns 20 sites 00010048 output - tally 0.15:1:0:held,0.16:1:0:held,0.17:1:0:held,0.18:1:0:held,0.19:2:2:failed,0.20:2:0:held,0.21:2:0:held,0.22:2:0:held,0.23:2:0:held,0.24:2:0:held,0.25:2:0:held,0.26:2:0:held,0.27:2:0:held,0.28:2:0:held,0.29:2:0:held,0.30:2:0:held,0.31:2:0:held,0.32:2:0:held,0.33:2:0:held,0.34:2:0:held,0.35:2:0:held,0.36:2:0:held,0.37:2:1:failed,0.38:2:0:held,0.39:2:0:held,0.40:2:0:held,0.41:2:0:held,0.42:2:0:held,0.43:2:0:held,0.44:2:0:held,0.45:2:0:held,0.46:2:0:held,0.47:2:0:held,0.48:1:0:held,0.49:1:1:failed,0.50:1:0:held,0.51:1:0:held,0.52:1:0:held,0.53:1:0:held,0.54:1:0:held,0.55:1:0:held,0.56:1:0:held,0.57:1:0:held,0.58:1:0:held,0.59:1:0:held,0.60:1:0:held,0.61:1:0:held,0.62:1:0:held,0.63:1:0:held fired -" ∷
    codes "entry 8 run 8 worker 0 mode live adopted 1:6 end failure:crash-break:00010048:00000000 turns 24 sites 00010048 output - tally 0.15:1:0:held,0.16:1:0:held,0.17:1:0:held,0.18:1:0:held,0.19:3:0:held,0.20:3:0:held,0.21:3:0:held,0.22:3:0:held,0.23:3:0:held,0.24:3:0:held,0.25:3:0:held,0.26:3:0:held,0.27:3:0:held,0.28:3:0:held,0.29:3:0:held,0.30:3:0:held,0.31:3:0:held,0.32:3:0:held,0.33:3:0:held,0.34:3:0:held,0.35:3:0:held,0.36:3:0:held,0.37:3:2:failed,0.38:3:0:held,0.39:3:0:held,0.40:3:0:held,0.41:3:0:held,0.42:3:0:held,0.43:3:0:held,0.44:3:0:held,0.45:3:0:held,0.46:3:0:held,0.47:3:0:held,0.48:1:0:held,0.49:1:0:held,0.50:1:0:held,0.51:1:0:held,0.52:1:0:held,0.53:1:0:held,0.54:1:0:held,0.55:1:0:held,0.56:1:0:held,0.57:1:0:held,0.58:1:0:held,0.59:1:0:held,0.60:1:0:held,0.61:1:0:held,0.62:1:0:held,0.63:1:0:held fired -" ∷
    codes "entry 9 run 9 worker 0 mode live adopted 2:6 end exit:90 turns 26 sites - output - tally - fired 0.0:2" ∷
    codes "entry 10 run 10 worker 0 mode live adopted 2:6 end exit:100 turns 26 sites - output - tally - fired 0.0:2" ∷
    codes "entry 11 run 11 worker 0 mode live adopted 2:5 end exit:79 turns 22 sites - output - tally - fired 0.0:1" ∷
    codes "entry 12 run 12 worker 0 mode live adopted 2:6 end exit:81 turns 26 sites - output - tally - fired 0.0:2" ∷
    codes "entry 13 run 13 worker 0 mode live adopted 2:4 end failure:crash-break:00010048:00000000 turns 16 sites 00010048 output - tally - fired -" ∷
    codes "entry 14 run 14 worker 0 mode live adopted 2:10 end budget turns 40 sites - output - tally - fired 0.0:1" ∷
    codes "entry 15 run 15 worker 0 mode live adopted 2:5 end exit:80 turns 22 sites - output - tally - fired 0.0:1" ∷
    codes "entry 16 run 16 worker 0 mode live adopted 2:10 end budget turns 40 sites - output - tally - fired 0.0:2" ∷
    codes "version 0 entry - patches 0" ∷
    codes "version 1 entry 6 patches 64" ∷
    codes "version 2 entry 8 patches 1" ∷
    codes "case 0 crash-break 00010048 opened 6 checked 2 state installed:0" ∷
    codes "candidate 0.0 one-of 00010044 x11 007FFFF0 class not" ∷
    codes "candidate 0.1 one-of 00010044 x12 00000008 class not" ∷
    codes "candidate 0.2 one-of 00010044 x17 0000005D class not" ∷
    codes "candidate 0.3 lower 00010044 x10 00000000 class not" ∷
    codes "candidate 0.4 less-than 00010044 x10 x11 class not" ∷
    codes "candidate 0.5 less-than 00010044 x10 x13 class not" ∷
    codes "candidate 0.6 less-than 00010044 x12 x11 class not" ∷
    codes "candidate 0.7 less-than 00010044 x12 x17 class not" ∷
    codes "candidate 0.8 less-than 00010044 x13 x10 class not" ∷
    codes "candidate 0.9 less-than 00010044 x13 x11 class not" ∷
    codes "candidate 0.10 less-than 00010044 x17 x11 class not" ∷
    codes "candidate 0.11 sp-offset 00010044 00000000 class not" ∷
    codes "candidate 0.12 sp-offset 00010040 00000000 class not" ∷
    codes "candidate 0.13 lower 0001003C x13 00000000 class not" ∷
    codes "candidate 0.14 sp-offset 0001003C 00000000 class not" ∷
    codes "candidate 0.15 one-of 00010038 x14 0000004D class not" ∷
    codes "candidate 0.16 lower 00010038 x13 00000000 class not" ∷
    codes "candidate 0.17 sp-offset 00010038 00000000 class not" ∷
    codes "candidate 0.18 sp-offset 00010034 00000000 class not" ∷
    codes "candidate 0.19 one-of 00010030 x9 007FFFF2,007FFFF4,007FFFF6,007FFFF7 class slightly" ∷
    codes "candidate 0.20 lower 00010030 x8 007FFFF2 class not" ∷
    codes "candidate 0.21 less-than 00010030 x6 x8 class not" ∷
    codes "candidate 0.22 less-than 00010030 x6 x9 class not" ∷
    codes "candidate 0.23 less-than 00010030 x7 x8 class not" ∷
    codes "candidate 0.24 less-than 00010030 x7 x9 class not" ∷
    codes "candidate 0.25 less-than 00010030 x8 x2 class not" ∷
    codes "candidate 0.26 less-than 00010030 x8 x9 class not" ∷
    codes "candidate 0.27 less-than 00010030 x9 x2 class not" ∷
    codes "candidate 0.28 less-than 00010030 x13 x8 class not" ∷
    codes "candidate 0.29 less-than 00010030 x13 x9 class not" ∷
    codes "candidate 0.30 sp-offset 00010030 00000000 class not" ∷
    codes "candidate 0.31 lower 0001002C x8 007FFFF1 class not" ∷
    codes "candidate 0.32 less-than 0001002C x6 x8 class not" ∷
    codes "candidate 0.33 less-than 0001002C x7 x8 class not" ∷
    codes "candidate 0.34 less-than 0001002C x8 x2 class not" ∷
    codes "candidate 0.35 less-than 0001002C x13 x8 class not" ∷
    codes "candidate 0.36 sp-offset 0001002C 00000000 class not" ∷
    codes "candidate 0.37 lower 00010028 x6 00000000 class moderately" ∷
    codes "candidate 0.38 lower 00010028 x13 00000000 class not" ∷
    codes "candidate 0.39 less-than 00010028 x6 x2 class not" ∷
    codes "candidate 0.40 less-than 00010028 x6 x8 class not" ∷
    codes "candidate 0.41 less-than 00010028 x13 x2 class not" ∷
    codes "candidate 0.42 less-than 00010028 x13 x8 class not" ∷
    codes "candidate 0.43 sp-offset 00010028 00000000 class not" ∷
    codes "candidate 0.44 lower 00010024 x8 007FFFF1 class not" ∷
    codes "candidate 0.45 less-than 00010024 x7 x8 class not" ∷
    codes "candidate 0.46 less-than 00010024 x8 x2 class not" ∷
    codes "candidate 0.47 sp-offset 00010024 00000000 class not" ∷
    codes "candidate 0.48 sp-offset 00010020 00000000 class not" ∷
    codes "candidate 0.49 one-of 0001001C x7 00000001,00000003,00000005,00000006 class slightly" ∷
    codes "candidate 0.50 one-of 0001001C x8 007FFFF1 class not" ∷
    codes "candidate 0.51 less-than 0001001C x7 x2 class not" ∷
    codes "candidate 0.52 less-than 0001001C x7 x8 class not" ∷
    codes "candidate 0.53 less-than 0001001C x8 x2 class not" ∷
    codes "candidate 0.54 sp-offset 0001001C 00000000 class not" ∷
    codes "candidate 0.55 one-of 00010018 x2 00800000 class not" ∷
    codes "candidate 0.56 sp-offset 00010018 00000000 class not" ∷
    codes "candidate 0.57 one-of 00010014 x2 00800000 class not" ∷
    codes "candidate 0.58 sp-offset 00010014 00000000 class not" ∷
    codes "candidate 0.59 one-of 00010010 x10 00000000 class not" ∷
    codes "candidate 0.60 one-of 00010010 x11 007FFFF0 class not" ∷
    codes "candidate 0.61 one-of 00010010 x12 00000008 class not" ∷
    codes "candidate 0.62 one-of 00010010 x17 0000003F class not" ∷
    codes "candidate 0.63 less-than 00010010 x10 x2 class not" ∷
    codes "repair 0.0 candidate 37 set x6 00000000 wins 5 fails 1 score 4" ∷
    codes "repair 0.1 candidate 37 return 00000000 wins 0 fails 0 score 1" ∷
    codes "install entry 8 case 0 repair 0" ∷
    codes "learned 79" ∷
    codes "end" ∷ [])
