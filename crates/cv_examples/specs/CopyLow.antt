-- A less-than, repaired by a copy of the greater register.
use Rattle.std.specs.Prelude.{ℕ, List, [], ◌∷◌, codes}
use Rattle.std.specs.List.{flat_map}
use Rattle.cv_base.specs.declared.plan.Mode.TheVariants.{Learn, Live}
use Rattle.cv_base.specs.PlanOf.{PlanOf}
use Rattle.cv_histories.specs.DrillPlan.{flat_image}
use Rattle.cv_histories.specs.Report.{line}

abbrev pub copy_low_words : List ℕ
copy_low_words =
    0x00000513 ∷ 0xff010593 ∷ 0x00200613 ∷ 0x03f00893 ∷ 0x00000073 ∷ 0xff014383 ∷ 0xff114303 ∷ 0x00138493 ∷
    0x00831313 ∷ 0x007ff437 ∷ 0x00640433 ∷ 0x00942023 ∷ 0x00048513 ∷ 0x05d00893 ∷ 0x00000073 ∷ []

abbrev pub copy_low_plan : PlanOf
copy_low_plan = record {
  image = flat_image copy_low_words;
  workers = 1;
  checks = 2;
  budget = 1000;
  rounds =
      record { mode = Learn; inputs = (15 ∷ 1 ∷ []) ∷ (14 ∷ 2 ∷ []) ∷ (9 ∷ 9 ∷ []) ∷ (13 ∷ 5 ∷ []) ∷ (15 ∷ 7 ∷ []) ∷ (12 ∷ 0 ∷ []) ∷ [] } ∷
      record { mode = Live; inputs = (10 ∷ 20 ∷ []) ∷ (10 ∷ 20 ∷ []) ∷ (10 ∷ 20 ∷ []) ∷ (10 ∷ 20 ∷ []) ∷ (10 ∷ 20 ∷ []) ∷ (10 ∷ 20 ∷ []) ∷ (10 ∷ 20 ∷ []) ∷ (10 ∷ 20 ∷ []) ∷ (9 ∷ 3 ∷ []) ∷ (8 ∷ 17 ∷ []) ∷ [] } ∷ [];
}

abbrev pub copy_low_report : List ℕ
copy_low_report = flat_map line (
    codes "clearview report 2" ∷
    codes "job workers 1 checks 2 budget 1000 rounds 2 runs 16" ∷
    codes "entry 0 run 0 worker 0 mode learn adopted - end exit:16 turns 15 sites - output - tally - fired -" ∷
    codes "entry 1 run 1 worker 0 mode learn adopted - end exit:15 turns 15 sites - output - tally - fired -" ∷
    codes "entry 2 run 2 worker 0 mode learn adopted - end exit:10 turns 15 sites - output - tally - fired -" ∷
    codes "entry 3 run 3 worker 0 mode learn adopted - end exit:14 turns 15 sites - output - tally - fired -" ∷
    codes "entry 4 run 4 worker 0 mode learn adopted - end exit:16 turns 15 sites - output - tally - fired -" ∷
    codes "entry 5 run 5 worker 0 mode learn adopted - end exit:13 turns 15 sites - output - tally - fired -" ∷
    codes "entry 6 run 6 worker 0 mode live adopted 0:2 end failure:crash-unwritable:0001002C:00800400 turns 12 sites 0001002C output - tally - fired -" ∷
    codes "entry 7 run 7 worker 0 mode live adopted 1:2 end failure:crash-unwritable:0001002C:00800400 turns 12 sites 0001002C output - tally 0.0:1:0:held,0.1:1:0:held,0.2:1:0:held,0.3:1:0:held,0.4:1:0:held,0.5:1:1:failed,0.6:1:0:held,0.7:1:0:held,0.8:1:0:held,0.9:1:0:held,0.10:1:0:held,0.11:1:0:held,0.12:1:0:held,0.13:1:0:held,0.14:1:0:held,0.15:1:0:held,0.21:1:0:held,0.23:1:0:held,0.24:1:0:held,0.25:1:1:failed,0.26:1:0:held,0.52:1:0:held,0.53:1:0:held,0.54:1:0:held,0.55:1:0:held,0.56:1:0:held,0.57:1:0:held,0.58:1:0:held,0.59:1:0:held,0.60:1:0:held,0.61:1:0:held,0.62:1:0:held,0.63:1:0:held fired -" ∷
    codes "entry 8 run 8 worker 0 mode live adopted 1:2 end failure:crash-unwritable:0001002C:00800400 turns 12 sites 0001002C output - tally 0.0:1:0:held,0.1:1:0:held,0.2:1:0:held,0.3:1:0:held,0.4:1:0:held,0.5:1:1:failed,0.6:1:0:held,0.7:1:0:held,0.8:1:0:held,0.9:1:0:held,0.10:1:0:held,0.11:1:0:held,0.12:1:0:held,0.13:1:0:held,0.14:1:0:held,0.15:1:0:held,0.21:1:0:held,0.23:1:0:held,0.24:1:0:held,0.25:1:1:failed,0.26:1:0:held,0.52:1:0:held,0.53:1:0:held,0.54:1:0:held,0.55:1:0:held,0.56:1:0:held,0.57:1:0:held,0.58:1:0:held,0.59:1:0:held,0.60:1:0:held,0.61:1:0:held,0.62:1:0:held,0.63:1:0:held fired -" ∷
    codes "entry 9 run 9 worker 0 mode live adopted 2:2 end failure:crash-unwritable:0001002C:00800000 turns 12 sites 0001002C output - tally - fired 0.0:1" ∷
    codes "entry 10 run 10 worker 0 mode live adopted 3:2 end failure:crash-unwritable:0001002C:00800400 turns 12 sites 0001002C output - tally - fired 0.1:1" ∷
    codes "entry 11 run 11 worker 0 mode live adopted 4:2 end exit:11 turns 15 sites - output - tally - fired 0.2:1" ∷
    codes "entry 12 run 12 worker 0 mode live adopted 4:2 end exit:11 turns 15 sites - output - tally - fired 0.2:1" ∷
    codes "entry 13 run 13 worker 0 mode live adopted 4:2 end exit:11 turns 15 sites - output - tally - fired 0.2:1" ∷
    codes "entry 14 run 14 worker 0 mode live adopted 4:2 end exit:10 turns 15 sites - output - tally - fired -" ∷
    codes "entry 15 run 15 worker 0 mode live adopted 4:2 end exit:9 turns 15 sites - output - tally - fired 0.2:1" ∷
    codes "version 0 entry - patches 0" ∷
    codes "version 1 entry 6 patches 64" ∷
    codes "version 2 entry 8 patches 1" ∷
    codes "version 3 entry 9 patches 1" ∷
    codes "version 4 entry 10 patches 1" ∷
    codes "case 0 crash-unwritable 0001002C opened 6 checked 2 state installed:2" ∷
    codes "candidate 0.0 lower 0001002C x8 007FF000 class not" ∷
    codes "candidate 0.1 lower 0001002C x9 0000000A class not" ∷
    codes "candidate 0.2 less-than 0001002C x6 x8 class not" ∷
    codes "candidate 0.3 less-than 0001002C x7 x8 class not" ∷
    codes "candidate 0.4 less-than 0001002C x7 x9 class not" ∷
    codes "candidate 0.5 less-than 0001002C x8 x2 class highly" ∷
    codes "candidate 0.6 less-than 0001002C x9 x2 class not" ∷
    codes "candidate 0.7 less-than 0001002C x9 x8 class not" ∷
    codes "candidate 0.8 sp-offset 0001002C 00000000 class not" ∷
    codes "candidate 0.9 one-of 00010028 x8 007FF000 class not" ∷
    codes "candidate 0.10 lower 00010028 x6 00000000 class not" ∷
    codes "candidate 0.11 less-than 00010028 x6 x2 class not" ∷
    codes "candidate 0.12 less-than 00010028 x6 x8 class not" ∷
    codes "candidate 0.13 less-than 00010028 x7 x8 class not" ∷
    codes "candidate 0.14 less-than 00010028 x8 x2 class not" ∷
    codes "candidate 0.15 sp-offset 00010028 00000000 class not" ∷
    codes "candidate 0.16 lower 00010030 x9 0000000A class not" ∷
    codes "candidate 0.17 less-than 00010030 x7 x9 class not" ∷
    codes "candidate 0.18 less-than 00010030 x9 x2 class not" ∷
    codes "candidate 0.19 less-than 00010030 x9 x8 class not" ∷
    codes "candidate 0.20 sp-offset 00010030 00000000 class not" ∷
    codes "candidate 0.21 sp-offset 00010024 00000000 class not" ∷
    codes "candidate 0.22 sp-offset 00010034 00000000 class not" ∷
    codes "candidate 0.23 lower 00010020 x6 00000000 class not" ∷
    codes "candidate 0.24 less-than 00010020 x6 x2 class not" ∷
    codes "candidate 0.25 less-than 00010020 x6 x7 class highly" ∷
    codes "candidate 0.26 sp-offset 00010020 00000000 class not" ∷
    codes "candidate 0.27 one-of 00010038 x11 007FFFF0 class not" ∷
    codes "candidate 0.28 one-of 00010038 x12 00000002 class not" ∷
    codes "candidate 0.29 one-of 00010038 x17 0000005D class not" ∷
    codes "candidate 0.30 lower 00010038 x10 0000000A class not" ∷
    codes "candidate 0.31 less-than 00010038 x6 x11 class not" ∷
    codes "candidate 0.32 less-than 00010038 x7 x10 class not" ∷
    codes "candidate 0.33 less-than 00010038 x7 x11 class not" ∷
    codes "candidate 0.34 less-than 00010038 x7 x17 class not" ∷
    codes "candidate 0.35 less-than 00010038 x8 x11 class not" ∷
    codes "candidate 0.36 less-than 00010038 x9 x10 class not" ∷
    codes "candidate 0.37 less-than 00010038 x9 x11 class not" ∷
    codes "candidate 0.38 less-than 00010038 x9 x17 class not" ∷
    codes "candidate 0.39 less-than 00010038 x10 x8 class not" ∷
    codes "candidate 0.40 less-than 00010038 x10 x9 class not" ∷
    codes "candidate 0.41 less-than 00010038 x10 x11 class not" ∷
    codes "candidate 0.42 less-than 00010038 x10 x17 class not" ∷
    codes "candidate 0.43 less-than 00010038 x12 x7 class not" ∷
    codes "candidate 0.44 less-than 00010038 x12 x8 class not" ∷
    codes "candidate 0.45 less-than 00010038 x12 x9 class not" ∷
    codes "candidate 0.46 less-than 00010038 x12 x10 class not" ∷
    codes "candidate 0.47 less-than 00010038 x12 x11 class not" ∷
    codes "candidate 0.48 less-than 00010038 x12 x17 class not" ∷
    codes "candidate 0.49 less-than 00010038 x17 x8 class not" ∷
    codes "candidate 0.50 less-than 00010038 x17 x11 class not" ∷
    codes "candidate 0.51 sp-offset 00010038 00000000 class not" ∷
    codes "candidate 0.52 lower 0001001C x7 00000009 class not" ∷
    codes "candidate 0.53 less-than 0001001C x7 x2 class not" ∷
    codes "candidate 0.54 sp-offset 0001001C 00000000 class not" ∷
    codes "candidate 0.55 one-of 00010018 x2 00800000 class not" ∷
    codes "candidate 0.56 sp-offset 00010018 00000000 class not" ∷
    codes "candidate 0.57 one-of 00010014 x2 00800000 class not" ∷
    codes "candidate 0.58 sp-offset 00010014 00000000 class not" ∷
    codes "candidate 0.59 one-of 00010010 x10 00000000 class not" ∷
    codes "candidate 0.60 one-of 00010010 x11 007FFFF0 class not" ∷
    codes "candidate 0.61 one-of 00010010 x12 00000002 class not" ∷
    codes "candidate 0.62 one-of 00010010 x17 0000003F class not" ∷
    codes "candidate 0.63 less-than 00010010 x10 x2 class not" ∷
    codes "repair 0.0 candidate 5 copy x8 x2 wins 0 fails 1 score -1" ∷
    codes "repair 0.1 candidate 5 return 00000000 wins 0 fails 1 score -1" ∷
    codes "repair 0.2 candidate 25 copy x6 x7 wins 4 fails 0 score 5" ∷
    codes "repair 0.3 candidate 25 return 00000000 wins 0 fails 0 score 1" ∷
    codes "install entry 8 case 0 repair 0" ∷
    codes "withdraw entry 9 case 0 repair 0" ∷
    codes "install entry 9 case 0 repair 1" ∷
    codes "withdraw entry 10 case 0 repair 1" ∷
    codes "install entry 10 case 0 repair 2" ∷
    codes "learned 79" ∷
    codes "end" ∷ [])
