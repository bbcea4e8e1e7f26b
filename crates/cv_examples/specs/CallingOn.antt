-- The indirect call with a fifth live input, which needs no repair.
use Rattle.std.specs.Prelude.{ℕ, List, [], ◌∷◌, codes}
use Rattle.std.specs.List.{flat_map}
use Rattle.cv_base.specs.declared.plan.Mode.TheVariants.{Learn, Live}
use Rattle.cv_base.specs.PlanOf.{PlanOf}
use Rattle.cv_histories.specs.DrillPlan.{flat_image}
use Rattle.cv_histories.specs.Report.{line}

abbrev pub calling_on_words : List ℕ
calling_on_words =
    0x00000513 ∷ 0xff010593 ∷ 0x00400613 ∷ 0x03f00893 ∷ 0x00000073 ∷ 0xff012303 ∷ 0x000300e7 ∷ 0x05d00893 ∷
    0x00000073 ∷ 0x00700513 ∷ 0x00008067 ∷ 0x00900513 ∷ 0x00008067 ∷ []

abbrev pub calling_on_plan : PlanOf
calling_on_plan = record {
  image = flat_image calling_on_words;
  workers = 1;
  checks = 2;
  budget = 1000;
  rounds =
      record { mode = Learn; inputs = (36 ∷ 0 ∷ 1 ∷ 0 ∷ []) ∷ (44 ∷ 0 ∷ 1 ∷ 0 ∷ []) ∷ [] } ∷
      record { mode = Live; inputs = (0 ∷ 0 ∷ 0 ∷ 0 ∷ []) ∷ (0 ∷ 0 ∷ 0 ∷ 0 ∷ []) ∷ (0 ∷ 0 ∷ 0 ∷ 0 ∷ []) ∷ (0 ∷ 0 ∷ 0 ∷ 0 ∷ []) ∷ (44 ∷ 0 ∷ 1 ∷ 0 ∷ []) ∷ [] } ∷ [];
}

abbrev pub calling_on_report : List ℕ
calling_on_report = flat_map line (
    codes "clearview report 2" ∷
    codes "job workers 1 checks 2 budget 1000 rounds 2 runs 7" ∷
    codes "entry 0 run 0 worker 0 mode learn adopted - end exit:7 turns 11 sites - output - tally - fired -" ∷
    codes "entry 1 run 1 worker 0 mode learn adopted - end exit:9 turns 11 sites - output - tally - fired -" ∷
    codes "entry 2 run 2 worker 0 mode live adopted 0:2 end failure:illegal-transfer:00010018:00000000 turns 7 sites 00010018 output - tally - fired -" ∷
    codes "entry 3 run 3 worker 0 mode live adopted 1:2 end failure:illegal-transfer:00010018:00000000 turns 7 sites 00010018 output - tally 0.0:1:1:failed,0.1:1:0:held,0.2:1:0:held,0.3:1:0:held,0.4:1:0:held,0.6:1:0:held,0.7:1:0:held,0.8:1:0:held,0.9:1:0:held,0.10:1:0:held,0.11:1:0:held,0.12:1:0:held,0.13:1:0:held,0.14:1:0:held,0.15:1:0:held,0.16:1:0:held,0.17:1:0:held,0.18:1:0:held,0.19:1:0:held,0.20:1:0:held,0.32:1:0:held,0.34:1:0:held,0.37:1:0:held,0.38:1:0:held,0.40:1:0:held fired -" ∷
    codes "entry 4 run 4 worker 0 mode live adopted 1:2 end failure:illegal-transfer:00010018:00000000 turns 7 sites 00010018 output - tally 0.0:1:1:failed,0.1:1:0:held,0.2:1:0:held,0.3:1:0:held,0.4:1:0:held,0.6:1:0:held,0.7:1:0:held,0.8:1:0:held,0.9:1:0:held,0.10:1:0:held,0.11:1:0:held,0.12:1:0:held,0.13:1:0:held,0.14:1:0:held,0.15:1:0:held,0.16:1:0:held,0.17:1:0:held,0.18:1:0:held,0.19:1:0:held,0.20:1:0:held,0.32:1:0:held,0.34:1:0:held,0.37:1:0:held,0.38:1:0:held,0.40:1:0:held fired -" ∷
    codes "entry 5 run 5 worker 0 mode live adopted 2:4 end exit:7 turns 11 sites - output - tally - fired 0.0:1" ∷
    codes "entry 6 run 6 worker 0 mode live adopted 2:4 end exit:9 turns 11 sites - output - tally - fired -" ∷
    codes "version 0 entry - patches 0" ∷
    codes "version 1 entry 2 patches 43" ∷
    codes "version 2 entry 4 patches 1" ∷
    codes "case 0 illegal-transfer 00010018 opened 2 checked 2 state installed:0" ∷
    codes "candidate 0.0 one-of 00010018 x6 00010024,0001002C class highly" ∷
    codes "candidate 0.1 less-than 00010018 x6 x2 class not" ∷
    codes "candidate 0.2 sp-offset 00010018 00000000 class not" ∷
    codes "candidate 0.3 one-of 00010014 x2 00800000 class not" ∷
    codes "candidate 0.4 sp-offset 00010014 00000000 class not" ∷
    codes "candidate 0.5 sp-offset 0001001C 00000000 class not" ∷
    codes "candidate 0.6 one-of 00010010 x10 00000000 class not" ∷
    codes "candidate 0.7 one-of 00010010 x11 007FFFF0 class not" ∷
    codes "candidate 0.8 one-of 00010010 x12 00000004 class not" ∷
    codes "candidate 0.9 one-of 00010010 x17 0000003F class not" ∷
    codes "candidate 0.10 less-than 00010010 x10 x2 class not" ∷
    codes "candidate 0.11 less-than 00010010 x10 x11 class not" ∷
    codes "candidate 0.12 less-than 00010010 x10 x12 class not" ∷
    codes "candidate 0.13 less-than 00010010 x10 x17 class not" ∷
    codes "candidate 0.14 less-than 00010010 x11 x2 class not" ∷
    codes "candidate 0.15 less-than 00010010 x12 x2 class not" ∷
    codes "candidate 0.16 less-than 00010010 x12 x11 class not" ∷
    codes "candidate 0.17 less-than 00010010 x12 x17 class not" ∷
    codes "candidate 0.18 less-than 00010010 x17 x2 class not" ∷
    codes "candidate 0.19 less-than 00010010 x17 x11 class not" ∷
    codes "candidate 0.20 sp-offset 00010010 00000000 class not" ∷
    codes "candidate 0.21 one-of 00010020 x10 00000007,00000009 class not" ∷
    codes "candidate 0.22 one-of 00010020 x11 007FFFF0 class not" ∷
    codes "candidate 0.23 one-of 00010020 x12 00000004 class not" ∷
    codes "candidate 0.24 one-of 00010020 x17 0000005D class not" ∷
    codes "candidate 0.25 less-than 00010020 x10 x11 class not" ∷
    codes "candidate 0.26 less-than 00010020 x10 x17 class not" ∷
    codes "candidate 0.27 less-than 00010020 x12 x10 class not" ∷
    codes "candidate 0.28 less-than 00010020 x12 x11 class not" ∷
    codes "candidate 0.29 less-than 00010020 x12 x17 class not" ∷
    codes "candidate 0.30 less-than 00010020 x17 x11 class not" ∷
    codes "candidate 0.31 sp-offset 00010020 00000000 class not" ∷
    codes "candidate 0.32 sp-offset 0001000C 00000000 class not" ∷
    codes "candidate 0.33 sp-offset 00010024 00000000 class not" ∷
    codes "candidate 0.34 sp-offset 00010008 00000000 class not" ∷
    codes "candidate 0.35 one-of 00010028 x1 0001001C class not" ∷
    codes "candidate 0.36 sp-offset 00010028 00000000 class not" ∷
    codes "candidate 0.37 one-of 00010004 x2 00800000 class not" ∷
    codes "candidate 0.38 sp-offset 00010004 00000000 class not" ∷
    codes "candidate 0.39 sp-offset 0001002C 00000000 class not" ∷
    codes "candidate 0.40 sp-offset 00010000 00000000 class not" ∷
    codes "candidate 0.41 one-of 00010030 x1 0001001C class not" ∷
    codes "candidate 0.42 sp-offset 00010030 00000000 class not" ∷
    codes "repair 0.0 candidate 0 set x6 00010024 wins 1 fails 0 score 2" ∷
    codes "repair 0.1 candidate 0 set x6 0001002C wins 0 fails 0 score 1" ∷
    codes "repair 0.2 candidate 0 skip wins 0 fails 0 score 1" ∷
    codes "repair 0.3 candidate 0 return 00000000 wins 0 fails 0 score 1" ∷
    codes "install entry 4 case 0 repair 0" ∷
    codes "learned 43" ∷
    codes "end" ∷ [])
