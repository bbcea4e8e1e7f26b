-- A candidate that fails more than once a run.
use Rattle.std.specs.Prelude.{ℕ, List, [], ◌∷◌, codes}
use Rattle.std.specs.List.{flat_map}
use Rattle.cv_base.specs.declared.plan.Mode.TheVariants.{Learn, Live}
use Rattle.cv_base.specs.PlanOf.{PlanOf}
use Rattle.cv_histories.specs.DrillPlan.{flat_image}
use Rattle.cv_histories.specs.Report.{line}

abbrev pub loop_moderate_words : List ℕ
loop_moderate_words =
    0x00000513 ∷ 0xff010593 ∷ 0x00200613 ∷ 0x03f00893 ∷ 0x00000073 ∷ 0xff114703 ∷ 0x00071063 ∷ 0xff014303 ∷
    0x00000393 ∷ 0xfe010413 ∷ 0x007404b3 ∷ 0x00748023 ∷ 0x00138393 ∷ 0xfe639ae3 ∷ 0x00038513 ∷ 0x05d00893 ∷
    0x00000073 ∷ []

abbrev pub loop_moderate_plan : PlanOf
loop_moderate_plan = record {
  image = flat_image loop_moderate_words;
  workers = 1;
  checks = 5;
  budget = 160;
  rounds =
      record { mode = Learn; inputs = (1 ∷ 0 ∷ []) ∷ (2 ∷ 0 ∷ []) ∷ (3 ∷ 0 ∷ []) ∷ (4 ∷ 1 ∷ []) ∷ (5 ∷ 0 ∷ []) ∷ (9 ∷ 0 ∷ []) ∷ (40 ∷ 0 ∷ []) ∷ [] } ∷
      record { mode = Live; inputs = (0 ∷ 0 ∷ []) ∷ (0 ∷ 0 ∷ []) ∷ (0 ∷ 0 ∷ []) ∷ (3 ∷ 1 ∷ []) ∷ (0 ∷ 0 ∷ []) ∷ (0 ∷ 0 ∷ []) ∷ (0 ∷ 0 ∷ []) ∷ (0 ∷ 0 ∷ []) ∷ (7 ∷ 0 ∷ []) ∷ (0 ∷ 1 ∷ []) ∷ (0 ∷ 0 ∷ []) ∷ (40 ∷ 0 ∷ []) ∷ (0 ∷ 0 ∷ []) ∷ (40 ∷ 0 ∷ []) ∷ (40 ∷ 0 ∷ []) ∷ (40 ∷ 0 ∷ []) ∷ (0 ∷ 0 ∷ []) ∷ (0 ∷ 0 ∷ []) ∷ [] } ∷ [];
}

abbrev pub loop_moderate_report : List ℕ
loop_moderate_report = flat_map line (
    codes "clearview report 2" ∷
    codes "job workers 1 checks 5 budget 160 rounds 2 runs 25" ∷
    codes "entry 0 run 0 worker 0 mode learn adopted - end exit:1 turns 17 sites - output - tally - fired -" ∷
    codes "entry 1 run 1 worker 0 mode learn adopted - end exit:2 turns 21 sites - output - tally - fired -" ∷
    codes "entry 2 run 2 worker 0 mode learn adopted - end exit:3 turns 25 sites - output - tally - fired -" ∷
    codes "entry 3 run 3 worker 0 mode learn adopted - end budget turns 160 sites - output - tally - fired -" ∷
    codes "entry 4 run 4 worker 0 mode learn adopted - end exit:5 turns 33 sites - output - tally - fired -" ∷
    codes "entry 5 run 5 worker 0 mode learn adopted - end exit:9 turns 49 sites - output - tally - fired -" ∷
    codes "entry 6 run 6 worker 0 mode learn adopted - end failure:crash-unwritable:0001002C:00800000 turns 140 sites 0001002C output - tally - fired -" ∷
    codes "entry 7 run 7 worker 0 mode live adopted 0:35 end failure:crash-unwritable:0001002C:00800000 turns 140 sites 0001002C output - tally - fired -" ∷
    codes "entry 8 run 8 worker 0 mode live adopted 1:35 end failure:crash-unwritable:0001002C:00800000 turns 140 sites 0001002C output - tally 0.0:33:0:held,0.1:33:0:held,0.2:33:0:held,0.3:33:0:held,0.4:33:0:held,0.5:33:0:held,0.6:33:0:held,0.7:33:0:held,0.8:33:0:held,0.9:33:0:held,0.10:33:0:held,0.11:33:0:held,0.12:33:0:held,0.13:33:0:held,0.14:32:0:held,0.15:32:0:held,0.16:32:0:held,0.17:32:0:held,0.18:32:0:held,0.19:1:0:held,0.20:1:0:held,0.21:32:32:failed,0.22:32:0:held,0.23:32:0:held,0.24:32:0:held,0.25:32:0:held,0.26:32:0:held,0.27:32:32:failed,0.28:32:0:held,0.29:32:0:held,0.30:32:0:held,0.31:1:0:held,0.34:1:0:held,0.35:1:0:held,0.37:1:0:held,0.38:1:0:held,0.39:1:0:held,0.54:1:0:held,0.55:1:0:held,0.56:1:0:held,0.57:1:0:held,0.58:1:0:held,0.59:1:0:held,0.60:1:0:held,0.61:1:0:held,0.62:1:0:held,0.63:1:0:held fired -" ∷
    codes "entry 9 run 9 worker 0 mode live adopted 1:35 end failure:crash-unwritable:0001002C:00800000 turns 140 sites 0001002C output - tally 0.0:33:0:held,0.1:33:0:held,0.2:33:0:held,0.3:33:0:held,0.4:33:0:held,0.5:33:0:held,0.6:33:0:held,0.7:33:0:held,0.8:33:0:held,0.9:33:0:held,0.10:33:0:held,0.11:33:0:held,0.12:33:0:held,0.13:33:0:held,0.14:32:0:held,0.15:32:0:held,0.16:32:0:held,0.17:32:0:held,0.18:32:0:held,0.19:1:0:held,0.20:1:0:held,0.21:32:32:failed,0.22:32:0:held,0.23:32:0:held,0.24:32:0:held,0.25:32:0:held,0.26:32:0:held,0.27:32:32:failed,0.28:32:0:held,0.29:32:0:held,0.30:32:0:held,0.31:1:0:held,0.34:1:0:held,0.35:1:0:held,0.37:1:0:held,0.38:1:0:held,0.39:1:0:held,0.54:1:0:held,0.55:1:0:held,0.56:1:0:held,0.57:1:0:held,0.58:1:0:held,0.59:1:0:held,0.60:1:0:held,0.61:1:0:held,0.62:1:0:held,0.63:1:0:held fired -" ∷
    codes "entry 10 run 10 worker 0 mode live adopted 1:155 end budget turns 160 sites - output - tally 0.37:154:154:failed,0.38:154:0:held,0.39:154:0:held,0.54:1:0:held,0.55:1:0:held,0.56:1:0:held,0.57:1:0:held,0.58:1:0:held,0.59:1:0:held,0.60:1:0:held,0.61:1:0:held,0.62:1:0:held,0.63:1:0:held fired -" ∷
    codes "entry 11 run 11 worker 0 mode live adopted 1:35 end failure:crash-unwritable:0001002C:00800000 turns 140 sites 0001002C output - tally 0.0:33:0:held,0.1:33:0:held,0.2:33:0:held,0.3:33:0:held,0.4:33:0:held,0.5:33:0:held,0.6:33:0:held,0.7:33:0:held,0.8:33:0:held,0.9:33:0:held,0.10:33:0:held,0.11:33:0:held,0.12:33:0:held,0.13:33:0:held,0.14:32:0:held,0.15:32:0:held,0.16:32:0:held,0.17:32:0:held,0.18:32:0:held,0.19:1:0:held,0.20:1:0:held,0.21:32:32:failed,0.22:32:0:held,0.23:32:0:held,0.24:32:0:held,0.25:32:0:held,0.26:32:0:held,0.27:32:32:failed,0.28:32:0:held,0.29:32:0:held,0.30:32:0:held,0.31:1:0:held,0.34:1:0:held,0.35:1:0:held,0.37:1:0:held,0.38:1:0:held,0.39:1:0:held,0.54:1:0:held,0.55:1:0:held,0.56:1:0:held,0.57:1:0:held,0.58:1:0:held,0.59:1:0:held,0.60:1:0:held,0.61:1:0:held,0.62:1:0:held,0.63:1:0:held fired -" ∷
    codes "entry 12 run 12 worker 0 mode live adopted 1:35 end failure:crash-unwritable:0001002C:00800000 turns 140 sites 0001002C output - tally 0.0:33:0:held,0.1:33:0:held,0.2:33:0:held,0.3:33:0:held,0.4:33:0:held,0.5:33:0:held,0.6:33:0:held,0.7:33:0:held,0.8:33:0:held,0.9:33:0:held,0.10:33:0:held,0.11:33:0:held,0.12:33:0:held,0.13:33:0:held,0.14:32:0:held,0.15:32:0:held,0.16:32:0:held,0.17:32:0:held,0.18:32:0:held,0.19:1:0:held,0.20:1:0:held,0.21:32:32:failed,0.22:32:0:held,0.23:32:0:held,0.24:32:0:held,0.25:32:0:held,0.26:32:0:held,0.27:32:32:failed,0.28:32:0:held,0.29:32:0:held,0.30:32:0:held,0.31:1:0:held,0.34:1:0:held,0.35:1:0:held,0.37:1:0:held,0.38:1:0:held,0.39:1:0:held,0.54:1:0:held,0.55:1:0:held,0.56:1:0:held,0.57:1:0:held,0.58:1:0:held,0.59:1:0:held,0.60:1:0:held,0.61:1:0:held,0.62:1:0:held,0.63:1:0:held fired -" ∷
    codes "entry 13 run 13 worker 0 mode live adopted 1:35 end failure:crash-unwritable:0001002C:00800000 turns 140 sites 0001002C output - tally 0.0:33:0:held,0.1:33:0:held,0.2:33:0:held,0.3:33:0:held,0.4:33:0:held,0.5:33:0:held,0.6:33:0:held,0.7:33:0:held,0.8:33:0:held,0.9:33:0:held,0.10:33:0:held,0.11:33:0:held,0.12:33:0:held,0.13:33:0:held,0.14:32:0:held,0.15:32:0:held,0.16:32:0:held,0.17:32:0:held,0.18:32:0:held,0.19:1:0:held,0.20:1:0:held,0.21:32:32:failed,0.22:32:0:held,0.23:32:0:held,0.24:32:0:held,0.25:32:0:held,0.26:32:0:held,0.27:32:32:failed,0.28:32:0:held,0.29:32:0:held,0.30:32:0:held,0.31:1:0:held,0.34:1:0:held,0.35:1:0:held,0.37:1:0:held,0.38:1:0:held,0.39:1:0:held,0.54:1:0:held,0.55:1:0:held,0.56:1:0:held,0.57:1:0:held,0.58:1:0:held,0.59:1:0:held,0.60:1:0:held,0.61:1:0:held,0.62:1:0:held,0.63:1:0:held fired -" ∷
    codes "entry 14 run 14 worker 0 mode live adopted 2:4 end exit:1 turns 17 sites - output - tally - fired 0.0:1" ∷
    codes "entry 15 run 15 worker 0 mode live adopted 2:10 end exit:7 turns 41 sites - output - tally - fired -" ∷
    codes "entry 16 run 16 worker 0 mode live adopted 2:155 end budget turns 160 sites - output - tally - fired -" ∷
    codes "entry 17 run 17 worker 0 mode live adopted 2:4 end exit:1 turns 17 sites - output - tally - fired 0.0:1" ∷
    codes "entry 18 run 18 worker 0 mode live adopted 2:35 end failure:crash-unwritable:0001002C:00800000 turns 140 sites 0001002C output - tally - fired -" ∷
    codes "entry 19 run 19 worker 0 mode live adopted 2:4 end exit:1 turns 17 sites - output - tally - fired 0.0:1" ∷
    codes "entry 20 run 20 worker 0 mode live adopted 2:35 end failure:crash-unwritable:0001002C:00800000 turns 140 sites 0001002C output - tally - fired -" ∷
    codes "entry 21 run 21 worker 0 mode live adopted 2:35 end failure:crash-unwritable:0001002C:00800000 turns 140 sites 0001002C output - tally - fired -" ∷
    codes "entry 22 run 22 worker 0 mode live adopted 3:35 end failure:crash-unwritable:0001002C:00800000 turns 140 sites 0001002C output - tally - fired -" ∷
    codes "entry 23 run 23 worker 0 mode live adopted 4:4 end exit:0 turns 17 sites - output - tally - fired 0.2:1" ∷
    codes "entry 24 run 24 worker 0 mode live adopted 4:4 end exit:0 turns 17 sites - output - tally - fired 0.2:1" ∷
    codes "version 0 entry - patches 0" ∷
    codes "version 1 entry 7 patches 64" ∷
    codes "version 2 entry 13 patches 1" ∷
    codes "version 3 entry 21 patches 1" ∷
    codes "version 4 entry 22 patches 1" ∷
    codes "case 0 crash-unwritable 0001002C opened 7 checked 5 state installed:2" ∷
    codes "candidate 0.0 lower 0001002C x7 00000000 class not" ∷
    codes "candidate 0.1 lower 0001002C x9 007FFFE0 class not" ∷
    codes "candidate 0.2 less-than 0001002C x7 x2 class not" ∷
    codes "candidate 0.3 less-than 0001002C x7 x8 class not" ∷
    codes "candidate 0.4 less-than 0001002C x7 x9 class not" ∷
    codes "candidate 0.5 less-than 0001002C x8 x9 class not" ∷
    codes "candidate 0.6 less-than 0001002C x9 x2 class not" ∷
    codes "candidate 0.7 sp-offset 0001002C 00000000 class not" ∷
    codes "candidate 0.8 one-of 00010028 x8 007FFFE0 class not" ∷
    codes "candidate 0.9 lower 00010028 x7 00000000 class not" ∷
    codes "candidate 0.10 less-than 00010028 x7 x2 class not" ∷
    codes "candidate 0.11 less-than 00010028 x7 x8 class not" ∷
    codes "candidate 0.12 less-than 00010028 x8 x2 class not" ∷
    codes "candidate 0.13 sp-offset 00010028 00000000 class not" ∷
    codes "candidate 0.14 lower 00010030 x7 00000000 class not" ∷
    codes "candidate 0.15 less-than 00010030 x7 x2 class not" ∷
    codes "candidate 0.16 less-than 00010030 x7 x8 class not" ∷
    codes "candidate 0.17 less-than 00010030 x7 x9 class not" ∷
    codes "candidate 0.18 sp-offset 00010030 00000000 class not" ∷
    codes "candidate 0.19 one-of 00010024 x2 00800000 class not" ∷
    codes "candidate 0.20 sp-offset 00010024 00000000 class not" ∷
    codes "candidate 0.21 lower 00010034 x6 00000001 class moderately" ∷
    codes "candidate 0.22 lower 00010034 x7 00000001 class not" ∷
    codes "candidate 0.23 less-than 00010034 x6 x2 class not" ∷
    codes "candidate 0.24 less-than 00010034 x6 x8 class not" ∷
    codes "candidate 0.25 less-than 00010034 x6 x9 class not" ∷
    codes "candidate 0.26 less-than 00010034 x7 x2 class not" ∷
    codes "candidate 0.27 less-than 00010034 x7 x6 class moderately" ∷
    codes "candidate 0.28 less-than 00010034 x7 x8 class not" ∷
    codes "candidate 0.29 less-than 00010034 x7 x9 class not" ∷
    codes "candidate 0.30 sp-offset 00010034 00000000 class not" ∷
    codes "candidate 0.31 sp-offset 00010020 00000000 class not" ∷
    codes "candidate 0.32 lower 00010038 x7 00000001 class not" ∷
    codes "candidate 0.33 sp-offset 00010038 00000000 class not" ∷
    codes "candidate 0.34 one-of 0001001C x2 00800000 class not" ∷
    codes "candidate 0.35 sp-offset 0001001C 00000000 class not" ∷
    codes "candidate 0.36 sp-offset 0001003C 00000000 class not" ∷
    codes "candidate 0.37 one-of 00010018 x14 00000000 class not" ∷
    codes "candidate 0.38 less-than 00010018 x14 x2 class not" ∷
    codes "candidate 0.39 sp-offset 00010018 00000000 class not" ∷
    codes "candidate 0.40 one-of 00010040 x11 007FFFF0 class not" ∷
    codes "candidate 0.41 one-of 00010040 x12 00000002 class not" ∷
    codes "candidate 0.42 one-of 00010040 x17 0000005D class not" ∷
    codes "candidate 0.43 lower 00010040 x10 00000001 class not" ∷
    codes "candidate 0.44 less-than 00010040 x7 x10 class not" ∷
    codes "candidate 0.45 less-than 00010040 x7 x11 class not" ∷
    codes "candidate 0.46 less-than 00010040 x7 x17 class not" ∷
    codes "candidate 0.47 less-than 00010040 x10 x7 class not" ∷
    codes "candidate 0.48 less-than 00010040 x10 x11 class not" ∷
    codes "candidate 0.49 less-than 00010040 x10 x17 class not" ∷
    codes "candidate 0.50 less-than 00010040 x12 x11 class not" ∷
    codes "candidate 0.51 less-than 00010040 x12 x17 class not" ∷
    codes "candidate 0.52 less-than 00010040 x17 x11 class not" ∷
    codes "candidate 0.53 sp-offset 00010040 00000000 class not" ∷
    codes "candidate 0.54 one-of 00010014 x2 00800000 class not" ∷
    codes "candidate 0.55 sp-offset 00010014 00000000 class not" ∷
    codes "candidate 0.56 one-of 00010010 x10 00000000 class not" ∷
    codes "candidate 0.57 one-of 00010010 x11 007FFFF0 class not" ∷
    codes "candidate 0.58 one-of 00010010 x12 00000002 class not" ∷
    codes "candidate 0.59 one-of 00010010 x17 0000003F class not" ∷
    codes "candidate 0.60 less-than 00010010 x10 x2 class not" ∷
    codes "candidate 0.61 less-than 00010010 x10 x11 class not" ∷
    codes "candidate 0.62 less-than 00010010 x10 x12 class not" ∷
    codes "candidate 0.63 less-than 00010010 x10 x17 class not" ∷
    codes "repair 0.0 candidate 21 set x6 00000001 wins 3 fails 3 score 0" ∷
    codes "repair 0.1 candidate 21 return 00000000 wins 0 fails 1 score -1" ∷
    codes "repair 0.2 candidate 27 copy x7 x6 wins 2 fails 0 score 3" ∷
    codes "repair 0.3 candidate 27 return 00000000 wins 0 fails 0 score 1" ∷
    codes "install entry 13 case 0 repair 0" ∷
    codes "withdraw entry 21 case 0 repair 0" ∷
    codes "install entry 21 case 0 repair 1" ∷
    codes "withdraw entry 22 case 0 repair 1" ∷
    codes "install entry 22 case 0 repair 2" ∷
    codes "learned 76" ∷
    codes "end" ∷ [])
