-- A repair that fails and stays.
use Rattle.std.specs.Prelude.{ℕ, List, [], ◌∷◌, codes}
use Rattle.std.specs.List.{flat_map}
use Rattle.cv_base.specs.declared.plan.Mode.TheVariants.{Learn, Live}
use Rattle.cv_base.specs.PlanOf.{PlanOf}
use Rattle.cv_histories.specs.DrillPlan.{flat_image}
use Rattle.cv_histories.specs.Report.{line}

abbrev pub kept_after_fail_words : List ℕ
kept_after_fail_words =
    0x00000513 ∷ 0xff010593 ∷ 0x00300613 ∷ 0x03f00893 ∷ 0x00000073 ∷ 0xff014303 ∷ 0xff114383 ∷ 0xff214483 ∷
    0x00331413 ∷ 0x40810433 ∷ 0x00941023 ∷ 0x007106b3 ∷ 0xfc06a703 ∷ 0x00048513 ∷ 0x05d00893 ∷ 0x00000073 ∷ []

abbrev pub kept_after_fail_plan : PlanOf
kept_after_fail_plan = record {
  image = flat_image kept_after_fail_words;
  workers = 1;
  checks = 4;
  budget = 1000;
  rounds =
      record { mode = Learn; inputs = (1 ∷ 4 ∷ 0 ∷ []) ∷ (5 ∷ 0 ∷ 3 ∷ []) ∷ (2 ∷ 8 ∷ 1 ∷ []) ∷ [] } ∷
      record { mode = Live; inputs = (0 ∷ 4 ∷ 2 ∷ []) ∷ (0 ∷ 4 ∷ 2 ∷ []) ∷ (0 ∷ 4 ∷ 2 ∷ []) ∷ (0 ∷ 4 ∷ 2 ∷ []) ∷ (0 ∷ 4 ∷ 2 ∷ []) ∷ (0 ∷ 4 ∷ 2 ∷ []) ∷ (0 ∷ 4 ∷ 2 ∷ []) ∷ (0 ∷ 4 ∷ 2 ∷ []) ∷ (0 ∷ 3 ∷ 2 ∷ []) ∷ (0 ∷ 3 ∷ 2 ∷ []) ∷ (0 ∷ 3 ∷ 2 ∷ []) ∷ (0 ∷ 3 ∷ 2 ∷ []) ∷ (0 ∷ 8 ∷ 5 ∷ []) ∷ (0 ∷ 8 ∷ 5 ∷ []) ∷ (0 ∷ 3 ∷ 2 ∷ []) ∷ (0 ∷ 3 ∷ 2 ∷ []) ∷ (0 ∷ 3 ∷ 2 ∷ []) ∷ (0 ∷ 3 ∷ 2 ∷ []) ∷ [] } ∷
      record { mode = Live; inputs = (0 ∷ 8 ∷ 0 ∷ []) ∷ (4 ∷ 0 ∷ 1 ∷ []) ∷ [] } ∷ [];
}

abbrev pub kept_after_fail_entries : List ℕ
kept_after_fail_entries = flat_map line (
    codes "clearview report 2" ∷
    codes "job workers 1 checks 4 budget 1000 rounds 3 runs 23" ∷
    codes "entry 0 run 0 worker 0 mode learn adopted - end exit:0 turns 16 sites - output - tally - fired -" ∷
    codes "entry 1 run 1 worker 0 mode learn adopted - end exit:3 turns 16 sites - output - tally - fired -" ∷
    codes "entry 2 run 2 worker 0 mode learn adopted - end exit:1 turns 16 sites - output - tally - fired -" ∷
    codes "entry 3 run 3 worker 0 mode live adopted 0:2 end failure:crash-unwritable:00010028:00800000 turns 11 sites 00010028 output - tally - fired -" ∷
    codes "entry 4 run 4 worker 0 mode live adopted 1:2 end failure:crash-unwritable:00010028:00800000 turns 11 sites 00010028 output - tally 0.0:1:1:failed,0.1:1:1:failed,0.2:1:0:held,0.3:1:0:held,0.4:1:0:held,0.5:1:1:failed,0.6:1:0:held,0.7:1:0:held,0.8:1:0:held,0.9:1:1:failed,0.10:1:0:held,0.11:1:0:held,0.12:1:0:held,0.13:1:0:held,0.22:1:1:failed,0.23:1:0:held,0.24:1:0:held,0.32:1:0:held,0.33:1:0:held,0.40:1:0:held,0.41:1:0:held,0.43:1:0:held,0.44:1:0:held fired -" ∷
    codes "entry 5 run 5 worker 0 mode live adopted 1:2 end failure:crash-unwritable:00010028:00800000 turns 11 sites 00010028 output - tally 0.0:1:1:failed,0.1:1:1:failed,0.2:1:0:held,0.3:1:0:held,0.4:1:0:held,0.5:1:1:failed,0.6:1:0:held,0.7:1:0:held,0.8:1:0:held,0.9:1:1:failed,0.10:1:0:held,0.11:1:0:held,0.12:1:0:held,0.13:1:0:held,0.22:1:1:failed,0.23:1:0:held,0.24:1:0:held,0.32:1:0:held,0.33:1:0:held,0.40:1:0:held,0.41:1:0:held,0.43:1:0:held,0.44:1:0:held fired -" ∷
    codes "entry 6 run 6 worker 0 mode live adopted 1:2 end failure:crash-unwritable:00010028:00800000 turns 11 sites 00010028 output - tally 0.0:1:1:failed,0.1:1:1:failed,0.2:1:0:held,0.3:1:0:held,0.4:1:0:held,0.5:1:1:failed,0.6:1:0:held,0.7:1:0:held,0.8:1:0:held,0.9:1:1:failed,0.10:1:0:held,0.11:1:0:held,0.12:1:0:held,0.13:1:0:held,0.22:1:1:failed,0.23:1:0:held,0.24:1:0:held,0.32:1:0:held,0.33:1:0:held,0.40:1:0:held,0.41:1:0:held,0.43:1:0:held,0.44:1:0:held fired -" ∷
    codes "entry 7 run 7 worker 0 mode live adopted 1:2 end failure:crash-unwritable:00010028:00800000 turns 11 sites 00010028 output - tally 0.0:1:1:failed,0.1:1:1:failed,0.2:1:0:held,0.3:1:0:held,0.4:1:0:held,0.5:1:1:failed,0.6:1:0:held,0.7:1:0:held,0.8:1:0:held,0.9:1:1:failed,0.10:1:0:held,0.11:1:0:held,0.12:1:0:held,0.13:1:0:held,0.22:1:1:failed,0.23:1:0:held,0.24:1:0:held,0.32:1:0:held,0.33:1:0:held,0.40:1:0:held,0.41:1:0:held,0.43:1:0:held,0.44:1:0:held fired -" ∷
    codes "entry 8 run 8 worker 0 mode live adopted 2:2 end exit:2 turns 16 sites - output - tally - fired 0.0:1" ∷
    codes "entry 9 run 9 worker 0 mode live adopted 2:2 end exit:2 turns 16 sites - output - tally - fired 0.0:1" ∷
    codes "entry 10 run 10 worker 0 mode live adopted 2:2 end exit:2 turns 16 sites - output - tally - fired 0.0:1" ∷
    codes "entry 11 run 11 worker 0 mode live adopted 2:2 end failure:crash-misaligned:00010030:007FFFC3 turns 13 sites 00010030 output - tally - fired 0.0:1" ∷
    codes "entry 12 run 12 worker 0 mode live adopted 3:2 end failure:crash-misaligned:00010030:007FFFC3 turns 13 sites 00010030 output - tally 1.0:1:1:failed,1.1:1:0:held,1.2:1:0:held,1.3:1:0:held,1.4:1:0:held,1.5:1:0:held,1.6:1:0:held,1.7:1:0:held,1.8:1:1:failed,1.9:1:0:held,1.10:1:0:held,1.11:1:0:held,1.12:1:0:held,1.13:1:0:held,1.14:1:0:held,1.21:1:0:held,1.22:1:1:failed,1.23:1:0:held,1.24:1:0:held,1.25:1:0:held,1.26:1:1:failed,1.27:1:0:held,1.28:1:0:held,1.30:1:0:held,1.31:1:1:failed,1.32:1:0:held,1.33:1:0:held,1.34:1:0:held,1.35:1:0:held fired 0.0:1" ∷
    codes "entry 13 run 13 worker 0 mode live adopted 3:2 end failure:crash-misaligned:00010030:007FFFC3 turns 13 sites 00010030 output - tally 1.0:1:1:failed,1.1:1:0:held,1.2:1:0:held,1.3:1:0:held,1.4:1:0:held,1.5:1:0:held,1.6:1:0:held,1.7:1:0:held,1.8:1:1:failed,1.9:1:0:held,1.10:1:0:held,1.11:1:0:held,1.12:1:0:held,1.13:1:0:held,1.14:1:0:held,1.21:1:0:held,1.22:1:1:failed,1.23:1:0:held,1.24:1:0:held,1.25:1:0:held,1.26:1:1:failed,1.27:1:0:held,1.28:1:0:held,1.30:1:0:held,1.31:1:1:failed,1.32:1:0:held,1.33:1:0:held,1.34:1:0:held,1.35:1:0:held fired 0.0:1" ∷
    codes "entry 14 run 14 worker 0 mode live adopted 4:2 end failure:crash-misaligned:00010030:007FFFC3 turns 13 sites 00010030 output - tally 1.0:1:1:failed,1.1:1:0:held,1.2:1:0:held,1.3:1:0:held,1.4:1:0:held,1.5:1:0:held,1.6:1:0:held,1.7:1:0:held,1.8:1:1:failed,1.9:1:0:held,1.10:1:0:held,1.11:1:0:held,1.12:1:0:held,1.13:1:0:held,1.14:1:0:held,1.21:1:0:held,1.22:1:1:failed,1.23:1:0:held,1.24:1:0:held,1.25:1:0:held,1.26:1:1:failed,1.27:1:0:held,1.28:1:0:held,1.30:1:0:held,1.31:1:1:failed,1.32:1:0:held,1.33:1:0:held,1.34:1:0:held,1.35:1:0:held fired 0.1:1" ∷
    codes "entry 15 run 15 worker 0 mode live adopted 5:2 end exit:5 turns 16 sites - output - tally 1.0:1:0:held,1.1:1:0:held,1.2:1:0:held,1.3:1:0:held,1.4:1:0:held,1.5:1:0:held,1.6:1:0:held,1.7:1:0:held,1.8:1:0:held,1.9:1:0:held,1.10:1:0:held,1.11:1:0:held,1.12:1:0:held,1.13:1:0:held,1.14:1:0:held,1.15:1:1:failed,1.16:1:0:held,1.17:1:1:failed,1.18:1:0:held,1.19:1:0:held,1.20:1:0:held,1.21:1:0:held,1.22:1:1:failed,1.23:1:0:held,1.24:1:0:held,1.25:1:0:held,1.26:1:1:failed,1.27:1:0:held,1.28:1:0:held,1.29:1:0:held,1.30:1:0:held,1.31:1:1:failed,1.32:1:0:held,1.33:1:0:held,1.34:1:0:held,1.35:1:0:held,1.36:1:1:failed,1.37:1:0:held,1.38:1:0:held,1.39:1:0:held,1.40:1:0:held,1.41:1:0:held,1.42:1:0:held,1.43:1:0:held,1.44:1:0:held,1.45:1:0:held,1.46:1:1:failed,1.47:1:0:held,1.48:1:0:held,1.49:1:1:failed,1.50:1:0:held,1.51:1:0:held,1.52:1:0:held,1.53:1:1:failed,1.54:1:0:held,1.55:1:0:held,1.56:1:0:held,1.57:1:0:held,1.58:1:0:held,1.59:1:0:held,1.60:1:0:held,1.61:1:0:held,1.62:1:0:held,1.63:1:0:held fired 0.2:1" ∷
    codes "entry 16 run 16 worker 0 mode live adopted 5:2 end exit:5 turns 16 sites - output - tally 1.0:1:0:held,1.1:1:0:held,1.2:1:0:held,1.3:1:0:held,1.4:1:0:held,1.5:1:0:held,1.6:1:0:held,1.7:1:0:held,1.8:1:0:held,1.9:1:0:held,1.10:1:0:held,1.11:1:0:held,1.12:1:0:held,1.13:1:0:held,1.14:1:0:held,1.15:1:1:failed,1.16:1:0:held,1.17:1:1:failed,1.18:1:0:held,1.19:1:0:held,1.20:1:0:held,1.21:1:0:held,1.22:1:1:failed,1.23:1:0:held,1.24:1:0:held,1.25:1:0:held,1.26:1:1:failed,1.27:1:0:held,1.28:1:0:held,1.29:1:0:held,1.30:1:0:held,1.31:1:1:failed,1.32:1:0:held,1.33:1:0:held,1.34:1:0:held,1.35:1:0:held,1.36:1:1:failed,1.37:1:0:held,1.38:1:0:held,1.39:1:0:held,1.40:1:0:held,1.41:1:0:held,1.42:1:0:held,1.43:1:0:held,1.44:1:0:held,1.45:1:0:held,1.46:1:1:failed,1.47:1:0:held,1.48:1:0:held,1.49:1:1:failed,1.50:1:0:held,1.51:1:0:held,1.52:1:0:held,1.53:1:1:failed,1.54:1:0:held,1.55:1:0:held,1.56:1:0:held,1.57:1:0:held,1.58:1:0:held,1.59:1:0:held,1.60:1:0:held,1.61:1:0:held,1.62:1:0:held,1.63:1:0:held fired 0.2:1" ∷
    codes "entry 17 run 17 worker 0 mode live adopted 5:2 end failure:crash-misaligned:00010030:007FFFC3 turns 13 sites 00010030 output - tally 1.0:1:1:failed,1.1:1:0:held,1.2:1:0:held,1.3:1:0:held,1.4:1:0:held,1.5:1:0:held,1.6:1:0:held,1.7:1:0:held,1.8:1:1:failed,1.9:1:0:held,1.10:1:0:held,1.11:1:0:held,1.12:1:0:held,1.13:1:0:held,1.14:1:0:held,1.21:1:0:held,1.22:1:1:failed,1.23:1:0:held,1.24:1:0:held,1.25:1:0:held,1.26:1:1:failed,1.27:1:0:held,1.28:1:0:held,1.30:1:0:held,1.31:1:1:failed,1.32:1:0:held,1.33:1:0:held,1.34:1:0:held,1.35:1:0:held fired 0.2:1" ∷
    codes "entry 18 run 18 worker 0 mode live adopted 6:2 end exit:2 turns 16 sites - output - tally - fired 0.2:1,1.0:1" ∷
    codes "entry 19 run 19 worker 0 mode live adopted 6:2 end exit:2 turns 16 sites - output - tally - fired 0.2:1,1.0:1" ∷
    codes "entry 20 run 20 worker 0 mode live adopted 6:2 end exit:2 turns 16 sites - output - tally - fired 0.2:1,1.0:1" ∷
    codes "entry 21 run 21 worker 0 mode live adopted 6:2 end exit:0 turns 16 sites - output - tally - fired 0.2:1" ∷
    codes "entry 22 run 22 worker 0 mode live adopted 6:2 end exit:1 turns 16 sites - output - tally - fired 0.2:1" ∷ [])
