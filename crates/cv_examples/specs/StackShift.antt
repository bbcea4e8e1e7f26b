-- An offset of sp, restored at three points.
use Rattle.std.specs.Prelude.{ℕ, List, [], ◌∷◌, codes}
use Rattle.std.specs.List.{flat_map}
use Rattle.cv_base.specs.declared.plan.Mode.TheVariants.{Learn, Live}
use Rattle.cv_base.specs.PlanOf.{PlanOf}
use Rattle.cv_histories.specs.DrillPlan.{flat_image}
use Rattle.cv_histories.specs.Report.{line}

abbrev pub stack_shift_words : List ℕ
stack_shift_words =
    0x00000513 ∷ 0xff010593 ∷ 0x00200613 ∷ 0x03f00893 ∷ 0x00000073 ∷ 0xff014303 ∷ 0xff114383 ∷ 0x010000ef ∷
    0x00030513 ∷ 0x05d00893 ∷ 0x00000073 ∷ 0xfe010113 ∷ 0x00112e23 ∷ 0x00030863 ∷ 0xfff30313 ∷ 0xff1ff0ef ∷
    0x0080006f ∷ 0x00710133 ∷ 0x01c12083 ∷ 0x02010113 ∷ 0x00008067 ∷ []

abbrev pub stack_shift_plan : PlanOf
stack_shift_plan = record {
  image = flat_image stack_shift_words;
  workers = 1;
  checks = 2;
  budget = 1000;
  rounds =
      record { mode = Learn; inputs = (0 ∷ 0 ∷ []) ∷ (5 ∷ 0 ∷ []) ∷ (3 ∷ 0 ∷ []) ∷ [] } ∷
      record { mode = Live; inputs = (2 ∷ 8 ∷ []) ∷ (2 ∷ 8 ∷ []) ∷ (2 ∷ 8 ∷ []) ∷ (2 ∷ 8 ∷ []) ∷ (2 ∷ 8 ∷ []) ∷ (2 ∷ 8 ∷ []) ∷ (2 ∷ 8 ∷ []) ∷ (2 ∷ 8 ∷ []) ∷ (2 ∷ 8 ∷ []) ∷ (2 ∷ 8 ∷ []) ∷ (2 ∷ 8 ∷ []) ∷ (2 ∷ 8 ∷ []) ∷ (2 ∷ 8 ∷ []) ∷ (2 ∷ 8 ∷ []) ∷ [] } ∷
      record { mode = Live; inputs = (1 ∷ 4 ∷ []) ∷ (1 ∷ 4 ∷ []) ∷ (1 ∷ 4 ∷ []) ∷ (4 ∷ 0 ∷ []) ∷ [] } ∷ [];
}

abbrev pub stack_shift_report : List ℕ
stack_shift_report = flat_map line (
    codes "clearview report 2" ∷
    codes "job workers 1 checks 2 budget 1000 rounds 3 runs 21" ∷
    codes "entry 0 run 0 worker 0 mode learn adopted - end exit:0 turns 18 sites - output - tally - fired -" ∷
    codes "entry 1 run 1 worker 0 mode learn adopted - end exit:0 turns 63 sites - output - tally - fired -" ∷
    codes "entry 2 run 2 worker 0 mode learn adopted - end exit:0 turns 45 sites - output - tally - fired -" ∷
    codes "entry 3 run 3 worker 0 mode live adopted 0:8 end failure:shadow-stack:00010050:00000000 turns 25 sites 00010050,0001003C,0001003C,0001001C output - tally - fired -" ∷
    codes "entry 4 run 4 worker 0 mode live adopted 1:8 end failure:shadow-stack:00010050:00000000 turns 25 sites 00010050,0001003C,0001003C,0001001C output - tally 0.0:1:1:failed,0.1:1:0:held,0.2:1:1:failed,0.3:1:1:failed,0.4:1:0:held,0.5:1:0:held,0.6:1:1:failed,0.7:1:0:held,0.8:1:0:held,0.9:1:1:failed,0.10:1:1:failed,0.11:1:1:failed,0.12:1:0:held,0.13:1:0:held,0.15:2:0:held,0.16:2:0:held,0.17:2:0:held,0.18:3:0:held,0.19:3:0:held,0.20:3:0:held,0.21:3:0:held,0.22:3:0:held,0.23:3:0:held,0.24:3:0:held,0.25:3:0:held,0.26:3:0:held,0.27:3:0:held fired -" ∷
    codes "entry 5 run 5 worker 0 mode live adopted 1:8 end failure:shadow-stack:00010050:00000000 turns 25 sites 00010050,0001003C,0001003C,0001001C output - tally 0.0:1:1:failed,0.1:1:0:held,0.2:1:1:failed,0.3:1:1:failed,0.4:1:0:held,0.5:1:0:held,0.6:1:1:failed,0.7:1:0:held,0.8:1:0:held,0.9:1:1:failed,0.10:1:1:failed,0.11:1:1:failed,0.12:1:0:held,0.13:1:0:held,0.15:2:0:held,0.16:2:0:held,0.17:2:0:held,0.18:3:0:held,0.19:3:0:held,0.20:3:0:held,0.21:3:0:held,0.22:3:0:held,0.23:3:0:held,0.24:3:0:held,0.25:3:0:held,0.26:3:0:held,0.27:3:0:held fired -" ∷
    codes "entry 6 run 6 worker 0 mode live adopted 2:8 end failure:shadow-stack:00010050:00010020 turns 25 sites 00010050,0001003C,0001003C,0001001C output - tally - fired 0.0:1" ∷
    codes "entry 7 run 7 worker 0 mode live adopted 3:12 end failure:crash-unreadable:00010048:00800004 turns 31 sites 00010048,0001001C output - tally - fired 0.1:2" ∷
    codes "entry 8 run 8 worker 0 mode live adopted 4:12 end failure:crash-unreadable:00010048:00800004 turns 31 sites 00010048,0001001C output - tally 1.0:3:0:held,1.1:3:0:held,1.2:3:3:failed,1.3:1:1:failed,1.4:1:1:failed,1.5:1:0:held,1.6:1:0:held,1.7:2:0:held,1.8:2:0:held,1.9:2:2:failed,1.10:2:2:failed,1.15:2:0:held,1.16:2:0:held,1.17:2:0:held,1.18:3:0:held,1.19:3:0:held,1.20:3:0:held,1.21:3:0:held,1.22:3:0:held,1.23:3:0:held,1.24:3:0:held,1.25:3:0:held,1.26:3:0:held,1.27:3:0:held fired 0.2:2" ∷
    codes "entry 9 run 9 worker 0 mode live adopted 5:8 end failure:shadow-stack:00010050:00000008 turns 25 sites 00010050,0001003C,0001003C,0001001C output - tally 1.0:1:0:held,1.1:1:0:held,1.2:1:1:failed,1.3:1:1:failed,1.4:1:1:failed,1.5:1:0:held,1.6:1:0:held,1.7:1:0:held,1.8:1:0:held,1.9:1:1:failed,1.11:1:1:failed,1.12:1:0:held,1.13:1:0:held,1.14:1:1:failed,1.15:2:0:held,1.16:2:0:held,1.17:2:0:held,1.18:3:0:held,1.19:3:0:held,1.20:3:0:held,1.21:3:0:held,1.22:3:0:held,1.23:3:0:held,1.24:3:0:held,1.25:3:0:held,1.26:3:0:held,1.27:3:0:held fired 0.3:1" ∷
    codes "entry 10 run 10 worker 0 mode live adopted 6:12 end failure:crash-unreadable:00010048:00800004 turns 31 sites 00010048,0001001C output - tally 1.0:3:0:held,1.1:3:0:held,1.2:3:3:failed,1.3:1:1:failed,1.4:1:1:failed,1.5:1:0:held,1.6:1:0:held,1.7:2:0:held,1.8:2:0:held,1.9:2:2:failed,1.10:2:2:failed,1.15:2:0:held,1.16:2:0:held,1.17:2:0:held,1.18:3:0:held,1.19:3:0:held,1.20:3:0:held,1.21:3:0:held,1.22:3:0:held,1.23:3:0:held,1.24:3:0:held,1.25:3:0:held,1.26:3:0:held,1.27:3:0:held fired 0.4:2" ∷
    codes "entry 11 run 11 worker 0 mode live adopted 7:8 end failure:shadow-stack:00010050:00000000 turns 25 sites 00010050,0001003C,0001003C,0001001C output - tally - fired 0.5:1,1.0:1" ∷
    codes "entry 12 run 12 worker 0 mode live adopted 8:8 end failure:shadow-stack:00010050:00000000 turns 25 sites 00010050,0001003C,0001003C,0001001C output - tally - fired 0.6:1,1.1:1" ∷
    codes "entry 13 run 13 worker 0 mode live adopted 9:13 end exit:0 turns 36 sites - output - tally - fired 0.7:1,1.2:1" ∷
    codes "entry 14 run 14 worker 0 mode live adopted 9:13 end exit:0 turns 36 sites - output - tally - fired 0.7:1,1.2:1" ∷
    codes "entry 15 run 15 worker 0 mode live adopted 9:13 end exit:0 turns 36 sites - output - tally - fired 0.7:1,1.2:1" ∷
    codes "entry 16 run 16 worker 0 mode live adopted 9:13 end exit:0 turns 36 sites - output - tally - fired 0.7:1,1.2:1" ∷
    codes "entry 17 run 17 worker 0 mode live adopted 9:9 end exit:0 turns 27 sites - output - tally - fired 0.7:1,1.2:1" ∷
    codes "entry 18 run 18 worker 0 mode live adopted 9:9 end exit:0 turns 27 sites - output - tally - fired 0.7:1,1.2:1" ∷
    codes "entry 19 run 19 worker 0 mode live adopted 9:9 end exit:0 turns 27 sites - output - tally - fired 0.7:1,1.2:1" ∷
    codes "entry 20 run 20 worker 0 mode live adopted 9:21 end exit:0 turns 54 sites - output - tally - fired 0.7:1,1.2:1" ∷
    codes "version 0 entry - patches 0" ∷
    codes "version 1 entry 3 patches 28" ∷
    codes "version 2 entry 5 patches 1" ∷
    codes "version 3 entry 6 patches 1" ∷
    codes "version 4 entry 7 patches 29" ∷
    codes "version 5 entry 8 patches 29" ∷
    codes "version 6 entry 9 patches 29" ∷
    codes "version 7 entry 10 patches 2" ∷
    codes "version 8 entry 11 patches 2" ∷
    codes "version 9 entry 12 patches 2" ∷
    codes "case 0 shadow-stack 00010050 opened 3 checked 2 state installed:7" ∷
    codes "candidate 0.0 one-of 00010050 x1 00010020,00010040 class highly" ∷
    codes "candidate 0.1 less-than 00010050 x1 x2 class not" ∷
    codes "candidate 0.2 less-than 00010050 x7 x1 class highly" ∷
    codes "candidate 0.3 sp-offset 00010050 00000000 class highly" ∷
    codes "candidate 0.4 lower 0001004C x2 007FFF40 class not" ∷
    codes "candidate 0.5 less-than 0001004C x7 x2 class not" ∷
    codes "candidate 0.6 sp-offset 0001004C FFFFFFE0 class highly" ∷
    codes "candidate 0.7 lower 00010048 x2 007FFF40 class not" ∷
    codes "candidate 0.8 less-than 00010048 x7 x2 class not" ∷
    codes "candidate 0.9 sp-offset 00010048 FFFFFFE0 class highly" ∷
    codes "candidate 0.10 one-of 00010044 x2 007FFF40,007FFF80,007FFFE0 class highly" ∷
    codes "candidate 0.11 one-of 00010044 x7 00000000 class highly" ∷
    codes "candidate 0.12 less-than 00010044 x7 x2 class not" ∷
    codes "candidate 0.13 sp-offset 00010044 FFFFFFE0 class not" ∷
    codes "candidate 0.14 sp-offset 00010040 FFFFFFE0 class not" ∷
    codes "candidate 0.15 sp-offset 0001003C FFFFFFE0 class not" ∷
    codes "candidate 0.16 lower 00010038 x6 00000001 class not" ∷
    codes "candidate 0.17 sp-offset 00010038 FFFFFFE0 class not" ∷
    codes "candidate 0.18 lower 00010034 x6 00000000 class not" ∷
    codes "candidate 0.19 less-than 00010034 x6 x1 class not" ∷
    codes "candidate 0.20 less-than 00010034 x6 x2 class not" ∷
    codes "candidate 0.21 sp-offset 00010034 FFFFFFE0 class not" ∷
    codes "candidate 0.22 one-of 00010030 x1 00010020,00010040 class not" ∷
    codes "candidate 0.23 lower 00010030 x2 007FFF40 class not" ∷
    codes "candidate 0.24 less-than 00010030 x1 x2 class not" ∷
    codes "candidate 0.25 sp-offset 00010030 FFFFFFE0 class not" ∷
    codes "candidate 0.26 lower 0001002C x2 007FFF60 class not" ∷
    codes "candidate 0.27 sp-offset 0001002C 00000000 class not" ∷
    codes "repair 0.0 candidate 0 set x1 00010020 wins 0 fails 1 score -1" ∷
    codes "repair 0.1 candidate 0 set x1 00010040 wins 0 fails 1 score -1" ∷
    codes "repair 0.2 candidate 0 return 00000000 wins 0 fails 1 score -1" ∷
    codes "repair 0.3 candidate 2 copy x1 x7 wins 0 fails 1 score -1" ∷
    codes "repair 0.4 candidate 2 return 00000000 wins 0 fails 1 score -1" ∷
    codes "repair 0.5 candidate 3 set-sp 00000000 wins 0 fails 1 score -1" ∷
    codes "repair 0.6 candidate 6 set-sp FFFFFFE0 wins 0 fails 1 score -1" ∷
    codes "repair 0.7 candidate 9 set-sp FFFFFFE0 wins 8 fails 0 score 9" ∷
    codes "repair 0.8 candidate 10 set x2 007FFF40 wins 0 fails 0 score 1" ∷
    codes "repair 0.9 candidate 10 set x2 007FFF80 wins 0 fails 0 score 1" ∷
    codes "repair 0.10 candidate 10 set x2 007FFFE0 wins 0 fails 0 score 1" ∷
    codes "repair 0.11 candidate 10 return FFFFFFE0 wins 0 fails 0 score 1" ∷
    codes "repair 0.12 candidate 11 set x7 00000000 wins 0 fails 0 score 1" ∷
    codes "repair 0.13 candidate 11 return FFFFFFE0 wins 0 fails 0 score 1" ∷
    codes "case 1 crash-unreadable 00010048 opened 7 checked 2 state installed:2" ∷
    codes "candidate 1.0 lower 00010048 x2 007FFF40 class not" ∷
    codes "candidate 1.1 less-than 00010048 x7 x2 class not" ∷
    codes "candidate 1.2 sp-offset 00010048 FFFFFFE0 class moderately" ∷
    codes "candidate 1.3 one-of 00010044 x2 007FFF40,007FFF80,007FFFE0 class highly" ∷
    codes "candidate 1.4 one-of 00010044 x7 00000000 class highly" ∷
    codes "candidate 1.5 less-than 00010044 x7 x2 class not" ∷
    codes "candidate 1.6 sp-offset 00010044 FFFFFFE0 class not" ∷
    codes "candidate 1.7 lower 0001004C x2 007FFF40 class not" ∷
    codes "candidate 1.8 less-than 0001004C x7 x2 class not" ∷
    codes "candidate 1.9 sp-offset 0001004C FFFFFFE0 class moderately" ∷
    codes "candidate 1.10 sp-offset 00010040 FFFFFFE0 class moderately" ∷
    codes "candidate 1.11 one-of 00010050 x1 00010020,00010040 class not" ∷
    codes "candidate 1.12 less-than 00010050 x1 x2 class not" ∷
    codes "candidate 1.13 less-than 00010050 x7 x1 class not" ∷
    codes "candidate 1.14 sp-offset 00010050 00000000 class not" ∷
    codes "candidate 1.15 sp-offset 0001003C FFFFFFE0 class not" ∷
    codes "candidate 1.16 lower 00010038 x6 00000001 class not" ∷
    codes "candidate 1.17 sp-offset 00010038 FFFFFFE0 class not" ∷
    codes "candidate 1.18 lower 00010034 x6 00000000 class not" ∷
    codes "candidate 1.19 less-than 00010034 x6 x1 class not" ∷
    codes "candidate 1.20 less-than 00010034 x6 x2 class not" ∷
    codes "candidate 1.21 sp-offset 00010034 FFFFFFE0 class not" ∷
    codes "candidate 1.22 one-of 00010030 x1 00010020,00010040 class not" ∷
    codes "candidate 1.23 lower 00010030 x2 007FFF40 class not" ∷
    codes "candidate 1.24 less-than 00010030 x1 x2 class not" ∷
    codes "candidate 1.25 sp-offset 00010030 FFFFFFE0 class not" ∷
    codes "candidate 1.26 lower 0001002C x2 007FFF60 class not" ∷
    codes "candidate 1.27 sp-offset 0001002C 00000000 class not" ∷
    codes "repair 1.0 candidate 3 set x2 007FFF40 wins 0 fails 1 score -1" ∷
    codes "repair 1.1 candidate 3 set x2 007FFF80 wins 0 fails 1 score -1" ∷
    codes "repair 1.2 candidate 3 set x2 007FFFE0 wins 8 fails 0 score 9" ∷
    codes "repair 1.3 candidate 3 return FFFFFFE0 wins 0 fails 0 score 1" ∷
    codes "repair 1.4 candidate 4 set x7 00000000 wins 0 fails 0 score 1" ∷
    codes "repair 1.5 candidate 4 return FFFFFFE0 wins 0 fails 0 score 1" ∷
    codes "install entry 5 case 0 repair 0" ∷
    codes "withdraw entry 6 case 0 repair 0" ∷
    codes "install entry 6 case 0 repair 1" ∷
    codes "withdraw entry 7 case 0 repair 1" ∷
    codes "install entry 7 case 0 repair 2" ∷
    codes "withdraw entry 8 case 0 repair 2" ∷
    codes "install entry 8 case 0 repair 3" ∷
    codes "withdraw entry 9 case 0 repair 3" ∷
    codes "install entry 9 case 0 repair 4" ∷
    codes "withdraw entry 10 case 0 repair 4" ∷
    codes "install entry 10 case 0 repair 5" ∷
    codes "install entry 10 case 1 repair 0" ∷
    codes "withdraw entry 11 case 0 repair 5" ∷
    codes "install entry 11 case 0 repair 6" ∷
    codes "withdraw entry 11 case 1 repair 0" ∷
    codes "install entry 11 case 1 repair 1" ∷
    codes "withdraw entry 12 case 0 repair 6" ∷
    codes "install entry 12 case 0 repair 7" ∷
    codes "withdraw entry 12 case 1 repair 1" ∷
    codes "install entry 12 case 1 repair 2" ∷
    codes "learned 72" ∷
    codes "end" ∷ [])
