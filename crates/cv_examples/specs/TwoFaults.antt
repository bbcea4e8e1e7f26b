-- Two failures, each with its case.
use Rattle.std.specs.Prelude.{ℕ, List, [], ◌∷◌, codes}
use Rattle.std.specs.List.{flat_map}
use Rattle.cv_base.specs.declared.plan.Mode.TheVariants.{Learn, Live}
use Rattle.cv_base.specs.PlanOf.{PlanOf}
use Rattle.cv_histories.specs.DrillPlan.{flat_image}
use Rattle.cv_histories.specs.Report.{line}

abbrev pub two_faults_words : List ℕ
two_faults_words =
    0x00000513 ∷ 0xff010593 ∷ 0x00300613 ∷ 0x03f00893 ∷ 0x00000073 ∷ 0xff014303 ∷ 0xff114383 ∷ 0xff214483 ∷
    0x00231413 ∷ 0xfe010693 ∷ 0x00d40433 ∷ 0x00742023 ∷ 0x00710733 ∷ 0xfc071503 ∷ 0x00148513 ∷ 0x05d00893 ∷
    0x00000073 ∷ []

abbrev pub two_faults_plan : PlanOf
two_faults_plan = record {
  image = flat_image two_faults_words;
  workers = 1;
  checks = 3;
  budget = 1000;
  rounds =
      record { mode = Learn; inputs = (0 ∷ 0 ∷ 1 ∷ []) ∷ (1 ∷ 2 ∷ 2 ∷ []) ∷ (3 ∷ 4 ∷ 3 ∷ []) ∷ (2 ∷ 2 ∷ 4 ∷ []) ∷ (0 ∷ 6 ∷ 5 ∷ []) ∷ [] } ∷
      record { mode = Live; inputs = (9 ∷ 2 ∷ 1 ∷ []) ∷ (1 ∷ 3 ∷ 1 ∷ []) ∷ (9 ∷ 2 ∷ 1 ∷ []) ∷ (1 ∷ 3 ∷ 1 ∷ []) ∷ (9 ∷ 2 ∷ 1 ∷ []) ∷ (1 ∷ 3 ∷ 1 ∷ []) ∷ (9 ∷ 2 ∷ 1 ∷ []) ∷ (1 ∷ 3 ∷ 1 ∷ []) ∷ (9 ∷ 2 ∷ 1 ∷ []) ∷ (1 ∷ 3 ∷ 1 ∷ []) ∷ (9 ∷ 2 ∷ 1 ∷ []) ∷ (1 ∷ 3 ∷ 1 ∷ []) ∷ (9 ∷ 3 ∷ 7 ∷ []) ∷ (200 ∷ 255 ∷ 0 ∷ []) ∷ (1 ∷ 2 ∷ 3 ∷ []) ∷ [] } ∷ [];
}

abbrev pub two_faults_entries : List ℕ
two_faults_entries = flat_map line (
    codes "clearview report 2" ∷
    codes "job workers 1 checks 3 budget 1000 rounds 2 runs 20" ∷
    codes "entry 0 run 0 worker 0 mode learn adopted - end exit:2 turns 17 sites - output - tally - fired -" ∷
    codes "entry 1 run 1 worker 0 mode learn adopted - end exit:3 turns 17 sites - output - tally - fired -" ∷
    codes "entry 2 run 2 worker 0 mode learn adopted - end exit:4 turns 17 sites - output - tally - fired -" ∷
    codes "entry 3 run 3 worker 0 mode learn adopted - end exit:5 turns 17 sites - output - tally - fired -" ∷
    codes "entry 4 run 4 worker 0 mode learn adopted - end exit:6 turns 17 sites - output - tally - fired -" ∷
    codes "entry 5 run 5 worker 0 mode live adopted 0:2 end failure:crash-unwritable:0001002C:00800004 turns 12 sites 0001002C output - tally - fired -" ∷
    codes "entry 6 run 6 worker 0 mode live adopted 1:2 end failure:crash-misaligned:00010034:007FFFC3 turns 14 sites 00010034 output - tally 0.0:1:1:failed,0.1:1:0:held,0.2:1:0:held,0.3:1:0:held,0.4:1:0:held,0.5:1:0:held,0.6:1:0:held,0.7:1:0:held,0.8:1:0:held,0.9:1:0:held,0.10:1:0:held,0.11:1:0:held,0.12:1:0:held,0.13:1:0:held,0.14:1:0:held,0.15:1:0:held,0.16:1:0:held,0.17:1:0:held,0.18:1:0:held,0.19:1:1:failed,0.20:1:0:held,0.21:1:0:held,0.22:1:0:held,0.23:1:0:held,0.24:1:0:held,0.25:1:0:held,0.26:1:0:held,0.27:1:0:held,0.28:1:0:held,0.29:1:0:held,0.30:1:0:held,0.31:1:1:failed,0.32:1:0:held,0.33:1:0:held,0.34:1:0:held,0.35:1:0:held,0.36:1:0:held,0.37:1:0:held,0.38:1:0:held,0.39:1:0:held,0.40:1:0:held,0.48:1:0:held,0.49:1:0:held,0.51:1:0:held,0.52:1:0:held fired -" ∷
    codes "entry 7 run 7 worker 0 mode live adopted 2:2 end failure:crash-unwritable:0001002C:00800004 turns 12 sites 0001002C output - tally 0.0:1:0:held,0.1:1:1:failed,0.2:1:1:failed,0.3:1:0:held,0.4:1:0:held,0.5:1:0:held,0.6:1:0:held,0.7:1:1:failed,0.8:1:0:held,0.9:1:0:held,0.10:1:1:failed,0.11:1:0:held,0.12:1:0:held,0.13:1:0:held,0.14:1:0:held,0.15:1:0:held,0.16:1:0:held,0.17:1:0:held,0.28:1:0:held,0.29:1:0:held,0.30:1:0:held,0.38:1:1:failed,0.39:1:0:held,0.40:1:0:held,0.48:1:0:held,0.49:1:0:held,0.51:1:0:held,0.52:1:0:held,1.24:1:0:held,1.25:1:1:failed,1.26:1:1:failed,1.27:1:0:held,1.28:1:0:held,1.29:1:0:held,1.30:1:0:held,1.31:1:1:failed,1.32:1:0:held,1.33:1:0:held,1.35:1:1:failed,1.36:1:0:held,1.37:1:0:held,1.38:1:0:held,1.39:1:0:held,1.40:1:0:held,1.41:1:0:held,1.42:1:0:held fired -" ∷
    codes "entry 8 run 8 worker 0 mode live adopted 2:2 end failure:crash-misaligned:00010034:007FFFC3 turns 14 sites 00010034 output - tally 0.0:1:1:failed,0.1:1:0:held,0.2:1:0:held,0.3:1:0:held,0.4:1:0:held,0.5:1:0:held,0.6:1:0:held,0.7:1:0:held,0.8:1:0:held,0.9:1:0:held,0.10:1:0:held,0.11:1:0:held,0.12:1:0:held,0.13:1:0:held,0.14:1:0:held,0.15:1:0:held,0.16:1:0:held,0.17:1:0:held,0.18:1:0:held,0.19:1:1:failed,0.20:1:0:held,0.21:1:0:held,0.22:1:0:held,0.23:1:0:held,0.24:1:0:held,0.25:1:0:held,0.26:1:0:held,0.27:1:0:held,0.28:1:0:held,0.29:1:0:held,0.30:1:0:held,0.31:1:1:failed,0.32:1:0:held,0.33:1:0:held,0.34:1:0:held,0.35:1:0:held,0.36:1:0:held,0.37:1:0:held,0.38:1:0:held,0.39:1:0:held,0.40:1:0:held,0.48:1:0:held,0.49:1:0:held,0.51:1:0:held,0.52:1:0:held,1.0:1:1:failed,1.1:1:0:held,1.2:1:0:held,1.3:1:0:held,1.4:1:0:held,1.5:1:0:held,1.6:1:0:held,1.7:1:0:held,1.8:1:1:failed,1.9:1:0:held,1.10:1:0:held,1.11:1:0:held,1.12:1:0:held,1.13:1:0:held,1.14:1:0:held,1.15:1:0:held,1.16:1:0:held,1.24:1:1:failed,1.25:1:0:held,1.26:1:0:held,1.27:1:0:held,1.28:1:0:held,1.29:1:0:held,1.30:1:0:held,1.31:1:0:held,1.32:1:0:held,1.33:1:0:held,1.35:1:0:held,1.36:1:0:held,1.37:1:0:held,1.38:1:0:held,1.39:1:0:held,1.40:1:0:held,1.41:1:0:held,1.42:1:0:held fired -" ∷
    codes "entry 9 run 9 worker 0 mode live adopted 2:2 end failure:crash-unwritable:0001002C:00800004 turns 12 sites 0001002C output - tally 0.0:1:0:held,0.1:1:1:failed,0.2:1:1:failed,0.3:1:0:held,0.4:1:0:held,0.5:1:0:held,0.6:1:0:held,0.7:1:1:failed,0.8:1:0:held,0.9:1:0:held,0.10:1:1:failed,0.11:1:0:held,0.12:1:0:held,0.13:1:0:held,0.14:1:0:held,0.15:1:0:held,0.16:1:0:held,0.17:1:0:held,0.28:1:0:held,0.29:1:0:held,0.30:1:0:held,0.38:1:1:failed,0.39:1:0:held,0.40:1:0:held,0.48:1:0:held,0.49:1:0:held,0.51:1:0:held,0.52:1:0:held,1.24:1:0:held,1.25:1:1:failed,1.26:1:1:failed,1.27:1:0:held,1.28:1:0:held,1.29:1:0:held,1.30:1:0:held,1.31:1:1:failed,1.32:1:0:held,1.33:1:0:held,1.35:1:1:failed,1.36:1:0:held,1.37:1:0:held,1.38:1:0:held,1.39:1:0:held,1.40:1:0:held,1.41:1:0:held,1.42:1:0:held fired -" ∷
    codes "entry 10 run 10 worker 0 mode live adopted 2:2 end failure:crash-misaligned:00010034:007FFFC3 turns 14 sites 00010034 output - tally 0.0:1:1:failed,0.1:1:0:held,0.2:1:0:held,0.3:1:0:held,0.4:1:0:held,0.5:1:0:held,0.6:1:0:held,0.7:1:0:held,0.8:1:0:held,0.9:1:0:held,0.10:1:0:held,0.11:1:0:held,0.12:1:0:held,0.13:1:0:held,0.14:1:0:held,0.15:1:0:held,0.16:1:0:held,0.17:1:0:held,0.18:1:0:held,0.19:1:1:failed,0.20:1:0:held,0.21:1:0:held,0.22:1:0:held,0.23:1:0:held,0.24:1:0:held,0.25:1:0:held,0.26:1:0:held,0.27:1:0:held,0.28:1:0:held,0.29:1:0:held,0.30:1:0:held,0.31:1:1:failed,0.32:1:0:held,0.33:1:0:held,0.34:1:0:held,0.35:1:0:held,0.36:1:0:held,0.37:1:0:held,0.38:1:0:held,0.39:1:0:held,0.40:1:0:held,0.48:1:0:held,0.49:1:0:held,0.51:1:0:held,0.52:1:0:held,1.0:1:1:failed,1.1:1:0:held,1.2:1:0:held,1.3:1:0:held,1.4:1:0:held,1.5:1:0:held,1.6:1:0:held,1.7:1:0:held,1.8:1:1:failed,1.9:1:0:held,1.10:1:0:held,1.11:1:0:held,1.12:1:0:held,1.13:1:0:held,1.14:1:0:held,1.15:1:0:held,1.16:1:0:held,1.24:1:1:failed,1.25:1:0:held,1.26:1:0:held,1.27:1:0:held,1.28:1:0:held,1.29:1:0:held,1.30:1:0:held,1.31:1:0:held,1.32:1:0:held,1.33:1:0:held,1.35:1:0:held,1.36:1:0:held,1.37:1:0:held,1.38:1:0:held,1.39:1:0:held,1.40:1:0:held,1.41:1:0:held,1.42:1:0:held fired -" ∷
    codes "entry 11 run 11 worker 0 mode live adopted 2:2 end failure:crash-unwritable:0001002C:00800004 turns 12 sites 0001002C output - tally 0.0:1:0:held,0.1:1:1:failed,0.2:1:1:failed,0.3:1:0:held,0.4:1:0:held,0.5:1:0:held,0.6:1:0:held,0.7:1:1:failed,0.8:1:0:held,0.9:1:0:held,0.10:1:1:failed,0.11:1:0:held,0.12:1:0:held,0.13:1:0:held,0.14:1:0:held,0.15:1:0:held,0.16:1:0:held,0.17:1:0:held,0.28:1:0:held,0.29:1:0:held,0.30:1:0:held,0.38:1:1:failed,0.39:1:0:held,0.40:1:0:held,0.48:1:0:held,0.49:1:0:held,0.51:1:0:held,0.52:1:0:held,1.24:1:0:held,1.25:1:1:failed,1.26:1:1:failed,1.27:1:0:held,1.28:1:0:held,1.29:1:0:held,1.30:1:0:held,1.31:1:1:failed,1.32:1:0:held,1.33:1:0:held,1.35:1:1:failed,1.36:1:0:held,1.37:1:0:held,1.38:1:0:held,1.39:1:0:held,1.40:1:0:held,1.41:1:0:held,1.42:1:0:held fired -" ∷
    codes "entry 12 run 12 worker 0 mode live adopted 3:2 end failure:crash-misaligned:00010034:007FFFC3 turns 14 sites 00010034 output - tally 1.0:1:1:failed,1.1:1:0:held,1.2:1:0:held,1.3:1:0:held,1.4:1:0:held,1.5:1:0:held,1.6:1:0:held,1.7:1:0:held,1.8:1:1:failed,1.9:1:0:held,1.10:1:0:held,1.11:1:0:held,1.12:1:0:held,1.13:1:0:held,1.14:1:0:held,1.15:1:0:held,1.16:1:0:held,1.24:1:1:failed,1.25:1:0:held,1.26:1:0:held,1.27:1:0:held,1.28:1:0:held,1.29:1:0:held,1.30:1:0:held,1.31:1:0:held,1.32:1:0:held,1.33:1:0:held,1.35:1:0:held,1.36:1:0:held,1.37:1:0:held,1.38:1:0:held,1.39:1:0:held,1.40:1:0:held,1.41:1:0:held,1.42:1:0:held fired -" ∷
    codes "entry 13 run 13 worker 0 mode live adopted 4:2 end exit:2 turns 17 sites - output - tally - fired 0.0:1" ∷
    codes "entry 14 run 14 worker 0 mode live adopted 4:2 end exit:2 turns 17 sites - output - tally - fired 1.0:1" ∷
    codes "entry 15 run 15 worker 0 mode live adopted 4:2 end exit:2 turns 17 sites - output - tally - fired 0.0:1" ∷
    codes "entry 16 run 16 worker 0 mode live adopted 4:2 end exit:2 turns 17 sites - output - tally - fired 1.0:1" ∷
    codes "entry 17 run 17 worker 0 mode live adopted 4:2 end exit:8 turns 17 sites - output - tally - fired 0.0:1,1.0:1" ∷
    codes "entry 18 run 18 worker 0 mode live adopted 4:2 end exit:1 turns 17 sites - output - tally - fired 0.0:1,1.0:1" ∷
    codes "entry 19 run 19 worker 0 mode live adopted 4:2 end exit:4 turns 17 sites - output - tally - fired -" ∷ [])
