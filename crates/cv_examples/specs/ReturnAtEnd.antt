-- A Return that fires and does nothing.
use Rattle.std.specs.Prelude.{ℕ, List, [], ◌∷◌, codes}
use Rattle.std.specs.List.{flat_map}
use Rattle.cv_base.specs.declared.plan.Mode.TheVariants.{Learn, Live}
use Rattle.cv_base.specs.PlanOf.{PlanOf}
use Rattle.cv_histories.specs.DrillPlan.{flat_image}
use Rattle.cv_histories.specs.Report.{line}

abbrev pub return_at_end_words : List ℕ
return_at_end_words =
    0x05c0006f ∷ 0xff010113 ∷ 0x00014303 ∷ 0x00114403 ∷ 0x00231313 ∷ 0x000103b7 ∷ 0x05038393 ∷ 0x006383b3 ∷
    0x0003a383 ∷ 0x000382e7 ∷ 0x0004a483 ∷ 0x00140513 ∷ 0x05d00893 ∷ 0x00000073 ∷ 0x008104b3 ∷ 0xff04a303 ∷
    0x00028067 ∷ 0x408104b3 ∷ 0xfec4a303 ∷ 0x00028067 ∷ 0x00010038 ∷ 0x00010044 ∷ 0x00000030 ∷ 0x00000513 ∷
    0xff010593 ∷ 0x00200613 ∷ 0x03f00893 ∷ 0x00000073 ∷ 0xf95ff0ef ∷ []

abbrev pub return_at_end_plan : PlanOf
return_at_end_plan = record {
  image = flat_image return_at_end_words;
  workers = 1;
  checks = 2;
  budget = 1000;
  rounds =
      record { mode = Learn; inputs = (0 ∷ 0 ∷ []) ∷ (1 ∷ 4 ∷ []) ∷ (1 ∷ 8 ∷ []) ∷ [] } ∷
      record { mode = Live; inputs = (2 ∷ 3 ∷ []) ∷ (2 ∷ 3 ∷ []) ∷ (2 ∷ 3 ∷ []) ∷ (2 ∷ 3 ∷ []) ∷ (2 ∷ 3 ∷ []) ∷ (2 ∷ 3 ∷ []) ∷ (2 ∷ 3 ∷ []) ∷ (2 ∷ 3 ∷ []) ∷ (2 ∷ 3 ∷ []) ∷ (2 ∷ 3 ∷ []) ∷ (2 ∷ 3 ∷ []) ∷ (2 ∷ 3 ∷ []) ∷ [] } ∷
      record { mode = Live; inputs = (2 ∷ 4 ∷ []) ∷ (2 ∷ 0 ∷ []) ∷ (0 ∷ 0 ∷ []) ∷ [] } ∷ [];
}

abbrev pub return_at_end_entries : List ℕ
return_at_end_entries = flat_map line (
    codes "clearview report 2" ∷
    codes "job workers 1 checks 2 budget 1000 rounds 3 runs 18" ∷
    codes "entry 0 run 0 worker 0 mode learn adopted - end exit:1 turns 23 sites - output - tally - fired -" ∷
    codes "entry 1 run 1 worker 0 mode learn adopted - end exit:5 turns 23 sites - output - tally - fired -" ∷
    codes "entry 2 run 2 worker 0 mode learn adopted - end exit:9 turns 23 sites - output - tally - fired -" ∷
    codes "entry 3 run 3 worker 0 mode live adopted 0:4 end failure:illegal-transfer:00010024:00000030 turns 16 sites 00010024,00010070 output - tally - fired -" ∷
    codes "entry 4 run 4 worker 0 mode live adopted 1:4 end failure:illegal-transfer:00010024:00000030 turns 16 sites 00010024,00010070 output - tally 0.0:1:1:failed,0.1:1:0:held,0.2:1:0:held,0.3:1:0:held,0.4:1:1:failed,0.5:1:0:held,0.6:1:0:held,0.7:1:0:held,0.10:1:1:failed,0.11:1:0:held,0.12:1:0:held,0.13:1:0:held,0.14:1:0:held,0.15:1:0:held,0.19:1:0:held,0.20:1:0:held,0.21:1:0:held,0.22:1:0:held,0.24:1:0:held,0.42:1:1:failed,0.43:1:0:held,0.44:1:0:held,0.49:1:0:held,0.50:1:0:held,0.56:1:0:held,0.57:1:0:held,0.63:1:0:held fired -" ∷
    codes "entry 5 run 5 worker 0 mode live adopted 1:4 end failure:illegal-transfer:00010024:00000030 turns 16 sites 00010024,00010070 output - tally 0.0:1:1:failed,0.1:1:0:held,0.2:1:0:held,0.3:1:0:held,0.4:1:1:failed,0.5:1:0:held,0.6:1:0:held,0.7:1:0:held,0.10:1:1:failed,0.11:1:0:held,0.12:1:0:held,0.13:1:0:held,0.14:1:0:held,0.15:1:0:held,0.19:1:0:held,0.20:1:0:held,0.21:1:0:held,0.22:1:0:held,0.24:1:0:held,0.42:1:1:failed,0.43:1:0:held,0.44:1:0:held,0.49:1:0:held,0.50:1:0:held,0.56:1:0:held,0.57:1:0:held,0.63:1:0:held fired -" ∷
    codes "entry 6 run 6 worker 0 mode live adopted 2:5 end failure:crash-misaligned:0001003C:007FFFE3 turns 18 sites 0001003C,00010024,00010070 output - tally - fired 0.0:1" ∷
    codes "entry 7 run 7 worker 0 mode live adopted 3:5 end failure:crash-misaligned:00010048:007FFFD9 turns 18 sites 00010048,00010024,00010070 output - tally 1.31:1:0:held,1.32:1:1:failed,1.33:1:0:held,1.34:1:0:held,1.36:1:1:failed,1.37:1:0:held,1.38:1:0:held,1.39:1:0:held,1.50:1:0:held,1.51:1:0:held,1.52:1:0:held,1.53:1:0:held,1.54:1:1:failed,1.55:1:0:held,1.56:1:0:held,1.57:1:0:held,1.58:1:1:failed,1.59:1:0:held,1.60:1:0:held,1.61:1:0:held,1.62:1:0:held,1.63:1:0:held fired 0.1:1" ∷
    codes "entry 8 run 8 worker 0 mode live adopted 4:5 end failure:crash-unreadable:00010028:00000000 turns 17 sites 00010028,00010070 output - tally 1.48:1:1:failed,1.49:1:0:held,1.54:1:1:failed,1.55:1:0:held,1.56:1:0:held,1.57:1:0:held,1.58:1:1:failed,1.59:1:0:held,1.60:1:0:held,1.61:1:0:held,1.62:1:0:held,1.63:1:0:held,2.44:1:0:held,2.46:1:0:held,2.47:1:0:held,2.51:1:0:held,2.52:1:1:failed,2.53:1:0:held,2.54:1:0:held,2.59:1:0:held,2.60:1:0:held,2.61:1:0:held,2.62:1:0:held,2.63:1:0:held fired 0.2:1" ∷
    codes "entry 9 run 9 worker 0 mode live adopted 5:4 end failure:illegal-transfer:00010024:00000030 turns 16 sites 00010024,00010070 output - tally 1.50:1:1:failed,1.51:1:0:held,1.52:1:0:held,1.53:1:0:held,1.54:1:1:failed,1.55:1:0:held,1.56:1:0:held,1.57:1:0:held,1.58:1:1:failed,1.59:1:0:held,1.60:1:0:held,1.61:1:0:held,1.62:1:0:held,1.63:1:0:held,2.44:1:0:held,2.46:1:0:held,2.47:1:0:held,2.51:1:0:held,2.54:1:0:held,2.55:1:1:failed,2.56:1:0:held,2.57:1:0:held,2.58:1:0:held,2.59:1:0:held,2.60:1:0:held,2.61:1:0:held,2.62:1:0:held,2.63:1:0:held,3.2:1:1:failed,3.3:1:0:held,3.4:1:0:held,3.5:1:0:held,3.9:1:1:failed,3.10:1:0:held,3.11:1:0:held,3.12:1:0:held,3.14:1:1:failed,3.15:1:0:held,3.16:1:0:held,3.17:1:0:held,3.18:1:0:held,3.19:1:0:held,3.37:1:0:held,3.38:1:0:held,3.39:1:0:held,3.40:1:0:held,3.45:1:0:held,3.51:1:1:failed,3.52:1:0:held,3.53:1:0:held,3.59:1:0:held,3.60:1:0:held fired 0.3:1" ∷
    codes "entry 10 run 10 worker 0 mode live adopted 6:5 end failure:crash-misaligned:0001003C:007FFFE3 turns 18 sites 0001003C,00010024,00010070 output - tally 1.0:1:1:failed,1.1:1:0:held,1.2:1:0:held,1.3:1:1:failed,1.4:1:0:held,1.5:1:0:held,1.6:1:1:failed,1.7:1:0:held,1.8:1:0:held,1.50:1:0:held,1.51:1:0:held,1.52:1:0:held,1.53:1:0:held,1.54:1:0:held,1.55:1:0:held,1.56:1:0:held,1.57:1:0:held,1.58:1:1:failed,1.59:1:0:held,1.60:1:0:held,1.61:1:0:held,1.62:1:0:held,1.63:1:0:held,2.18:1:1:failed,2.19:1:0:held,2.20:1:0:held,2.21:1:1:failed,2.22:1:0:held,2.23:1:0:held,2.24:1:1:failed,2.25:1:0:held,2.26:1:0:held,2.44:1:0:held,2.46:1:0:held,2.47:1:0:held,2.51:1:0:held,2.54:1:0:held,2.55:1:0:held,2.56:1:0:held,2.57:1:0:held,2.58:1:0:held,2.59:1:0:held,2.60:1:0:held,2.61:1:0:held,2.62:1:0:held,2.63:1:0:held,3.2:1:0:held,3.3:1:0:held,3.4:1:0:held,3.5:1:0:held,3.9:1:0:held,3.10:1:0:held,3.11:1:0:held,3.12:1:0:held,3.14:1:1:failed,3.15:1:0:held,3.16:1:0:held,3.17:1:0:held,3.18:1:0:held,3.19:1:0:held,3.37:1:0:held,3.38:1:0:held,3.39:1:0:held,3.40:1:0:held,3.41:1:0:held,3.42:1:1:failed,3.43:1:0:held,3.44:1:0:held,3.45:1:0:held,3.46:1:1:failed,3.47:1:0:held,3.48:1:0:held,3.49:1:1:failed,3.50:1:0:held,3.51:1:1:failed,3.52:1:0:held,3.53:1:0:held,3.59:1:0:held,3.60:1:0:held fired 0.4:1" ∷
    codes "entry 11 run 11 worker 0 mode live adopted 7:5 end failure:crash-misaligned:00010048:007FFFD9 turns 18 sites 00010048,00010024,00010070 output - tally 1.31:1:0:held,1.32:1:1:failed,1.33:1:0:held,1.34:1:0:held,1.36:1:1:failed,1.37:1:0:held,1.38:1:0:held,1.39:1:0:held,1.50:1:0:held,1.51:1:0:held,1.52:1:0:held,1.53:1:0:held,1.54:1:0:held,1.55:1:0:held,1.56:1:0:held,1.57:1:0:held,1.58:1:1:failed,1.59:1:0:held,1.60:1:0:held,1.61:1:0:held,1.62:1:0:held,1.63:1:0:held,2.0:1:1:failed,2.1:1:0:held,2.2:1:0:held,2.3:1:0:held,2.4:1:0:held,2.5:1:1:failed,2.6:1:0:held,2.7:1:0:held,2.44:1:0:held,2.46:1:0:held,2.47:1:0:held,2.51:1:0:held,2.54:1:0:held,2.55:1:0:held,2.56:1:0:held,2.57:1:0:held,2.58:1:0:held,2.59:1:0:held,2.60:1:0:held,2.61:1:0:held,2.62:1:0:held,2.63:1:0:held,3.2:1:0:held,3.3:1:0:held,3.4:1:0:held,3.5:1:0:held,3.9:1:0:held,3.10:1:0:held,3.11:1:0:held,3.12:1:0:held,3.14:1:1:failed,3.15:1:0:held,3.16:1:0:held,3.17:1:0:held,3.18:1:0:held,3.19:1:0:held,3.37:1:0:held,3.38:1:0:held,3.39:1:0:held,3.40:1:0:held,3.45:1:0:held,3.51:1:1:failed,3.52:1:0:held,3.53:1:0:held,3.59:1:0:held,3.60:1:0:held,3.61:1:0:held,3.62:1:1:failed,3.63:1:0:held fired 0.5:1" ∷
    codes "entry 12 run 12 worker 0 mode live adopted 8:4 end failure:illegal-transfer:00010024:00000030 turns 16 sites 00010024,00010070 output - tally 1.50:1:1:failed,1.51:1:0:held,1.52:1:0:held,1.53:1:0:held,1.54:1:1:failed,1.55:1:0:held,1.56:1:0:held,1.57:1:0:held,1.58:1:1:failed,1.59:1:0:held,1.60:1:0:held,1.61:1:0:held,1.62:1:0:held,1.63:1:0:held,2.44:1:0:held,2.46:1:0:held,2.47:1:0:held,2.51:1:0:held,2.54:1:0:held,2.55:1:1:failed,2.56:1:0:held,2.57:1:0:held,2.58:1:0:held,2.59:1:0:held,2.60:1:0:held,2.61:1:0:held,2.62:1:0:held,2.63:1:0:held,3.2:1:1:failed,3.3:1:0:held,3.4:1:0:held,3.5:1:0:held,3.9:1:1:failed,3.10:1:0:held,3.11:1:0:held,3.12:1:0:held,3.14:1:1:failed,3.15:1:0:held,3.16:1:0:held,3.17:1:0:held,3.18:1:0:held,3.19:1:0:held,3.37:1:0:held,3.38:1:0:held,3.39:1:0:held,3.40:1:0:held,3.45:1:0:held,3.51:1:1:failed,3.52:1:0:held,3.53:1:0:held,3.59:1:0:held,3.60:1:0:held fired 0.6:1" ∷
    codes "entry 13 run 13 worker 0 mode live adopted 9:5 end failure:crash-misaligned:0001003C:007FFFE3 turns 18 sites 0001003C,00010024,00010070 output - tally 1.0:1:1:failed,1.1:1:0:held,1.2:1:0:held,1.3:1:1:failed,1.4:1:0:held,1.5:1:0:held,1.6:1:1:failed,1.7:1:0:held,1.8:1:0:held,1.50:1:0:held,1.51:1:0:held,1.52:1:0:held,1.53:1:0:held,1.54:1:0:held,1.55:1:0:held,1.56:1:0:held,1.57:1:0:held,1.58:1:0:held,1.59:1:0:held,1.60:1:0:held,1.61:1:0:held,1.62:1:0:held,1.63:1:0:held,2.18:1:1:failed,2.19:1:0:held,2.20:1:0:held,2.21:1:1:failed,2.22:1:0:held,2.23:1:0:held,2.24:1:1:failed,2.25:1:0:held,2.26:1:0:held,2.44:1:0:held,2.46:1:0:held,2.47:1:0:held,2.51:1:0:held,2.54:1:0:held,2.55:1:0:held,2.56:1:0:held,2.57:1:0:held,2.58:1:0:held,2.59:1:0:held,2.60:1:0:held,2.61:1:0:held,2.62:1:0:held,2.63:1:0:held,3.2:1:0:held,3.3:1:0:held,3.4:1:0:held,3.5:1:0:held,3.9:1:0:held,3.10:1:0:held,3.11:1:0:held,3.12:1:0:held,3.14:1:0:held,3.15:1:0:held,3.16:1:0:held,3.17:1:0:held,3.18:1:0:held,3.19:1:0:held,3.37:1:0:held,3.38:1:0:held,3.39:1:0:held,3.40:1:0:held,3.41:1:0:held,3.42:1:1:failed,3.43:1:0:held,3.44:1:0:held,3.45:1:0:held,3.46:1:1:failed,3.47:1:0:held,3.48:1:0:held,3.49:1:1:failed,3.50:1:0:held,3.51:1:1:failed,3.52:1:0:held,3.53:1:0:held,3.59:1:0:held,3.60:1:0:held fired 0.7:1" ∷
    codes "entry 14 run 14 worker 0 mode live adopted 10:5 end failure:crash-misaligned:00010048:007FFFD9 turns 18 sites 00010048,00010024,00010070 output - tally 2.0:1:1:failed,2.1:1:0:held,2.2:1:0:held,2.3:1:0:held,2.4:1:0:held,2.5:1:1:failed,2.6:1:0:held,2.7:1:0:held,2.44:1:0:held,2.46:1:0:held,2.47:1:0:held,2.51:1:0:held,2.54:1:0:held,2.55:1:0:held,2.56:1:0:held,2.57:1:0:held,2.58:1:0:held,2.59:1:0:held,2.60:1:0:held,2.61:1:0:held,2.62:1:0:held,2.63:1:0:held,3.2:1:0:held,3.3:1:0:held,3.4:1:0:held,3.5:1:0:held,3.9:1:0:held,3.10:1:0:held,3.11:1:0:held,3.12:1:0:held,3.14:1:0:held,3.15:1:0:held,3.16:1:0:held,3.17:1:0:held,3.18:1:0:held,3.19:1:0:held,3.37:1:0:held,3.38:1:0:held,3.39:1:0:held,3.40:1:0:held,3.45:1:0:held,3.51:1:1:failed,3.52:1:0:held,3.53:1:0:held,3.59:1:0:held,3.60:1:0:held,3.61:1:0:held,3.62:1:1:failed,3.63:1:0:held fired 0.8:1" ∷
    codes "entry 15 run 15 worker 0 mode live adopted 11:4 end failure:illegal-transfer:00010024:00000030 turns 16 sites 00010024,00010070 output - tally 3.2:1:1:failed,3.3:1:0:held,3.4:1:0:held,3.5:1:0:held,3.9:1:1:failed,3.10:1:0:held,3.11:1:0:held,3.12:1:0:held,3.14:1:1:failed,3.15:1:0:held,3.16:1:0:held,3.17:1:0:held,3.18:1:0:held,3.19:1:0:held,3.37:1:0:held,3.38:1:0:held,3.39:1:0:held,3.40:1:0:held,3.45:1:0:held,3.51:1:1:failed,3.52:1:0:held,3.53:1:0:held,3.59:1:0:held,3.60:1:0:held fired 0.9:1" ∷
    codes "entry 16 run 16 worker 0 mode live adopted 12:6 end exit:1 turns 23 sites - output - tally 3.0:1:0:held,3.1:1:0:held,3.2:1:0:held,3.3:1:0:held,3.4:1:0:held,3.5:1:0:held,3.6:1:0:held,3.7:1:1:failed,3.8:1:0:held,3.9:1:0:held,3.10:1:0:held,3.11:1:0:held,3.12:1:0:held,3.13:1:0:held,3.14:1:0:held,3.15:1:0:held,3.16:1:0:held,3.17:1:0:held,3.18:1:0:held,3.19:1:0:held,3.20:1:0:held,3.21:1:0:held,3.22:1:0:held,3.23:1:0:held,3.24:1:0:held,3.25:1:0:held,3.26:1:0:held,3.27:1:1:failed,3.28:1:0:held,3.29:1:0:held,3.30:1:0:held,3.31:1:0:held,3.32:1:0:held,3.33:1:0:held,3.34:1:0:held,3.35:1:0:held,3.36:1:0:held,3.37:1:0:held,3.38:1:0:held,3.39:1:0:held,3.40:1:0:held,3.41:1:0:held,3.42:1:0:held,3.43:1:0:held,3.44:1:0:held,3.45:1:0:held,3.46:1:0:held,3.47:1:0:held,3.48:1:0:held,3.49:1:0:held,3.50:1:0:held,3.51:1:0:held,3.52:1:0:held,3.53:1:0:held,3.54:1:0:held,3.55:1:0:held,3.56:1:0:held,3.57:1:0:held,3.58:1:0:held,3.59:1:0:held,3.60:1:0:held fired 0.10:1" ∷
    codes "entry 17 run 17 worker 0 mode live adopted 12:6 end exit:1 turns 23 sites - output - tally 3.0:1:0:held,3.1:1:0:held,3.2:1:0:held,3.3:1:0:held,3.4:1:0:held,3.5:1:0:held,3.6:1:0:held,3.7:1:0:held,3.8:1:0:held,3.9:1:0:held,3.10:1:0:held,3.11:1:0:held,3.12:1:0:held,3.13:1:0:held,3.14:1:0:held,3.15:1:0:held,3.16:1:0:held,3.17:1:0:held,3.18:1:0:held,3.19:1:0:held,3.20:1:0:held,3.21:1:0:held,3.22:1:0:held,3.23:1:0:held,3.24:1:0:held,3.25:1:0:held,3.26:1:0:held,3.27:1:0:held,3.28:1:0:held,3.29:1:0:held,3.30:1:0:held,3.31:1:0:held,3.32:1:0:held,3.33:1:0:held,3.34:1:0:held,3.35:1:0:held,3.36:1:0:held,3.37:1:0:held,3.38:1:0:held,3.39:1:0:held,3.40:1:0:held,3.41:1:0:held,3.42:1:0:held,3.43:1:0:held,3.44:1:0:held,3.45:1:0:held,3.46:1:0:held,3.47:1:0:held,3.48:1:0:held,3.49:1:0:held,3.50:1:0:held,3.51:1:0:held,3.52:1:0:held,3.53:1:0:held,3.54:1:0:held,3.55:1:0:held,3.56:1:0:held,3.57:1:0:held,3.58:1:0:held,3.59:1:0:held,3.60:1:0:held fired -" ∷ [])
