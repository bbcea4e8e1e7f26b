-- A case whose candidates are at most slightly correlated.
use Rattle.std.specs.Prelude.{ℕ, List, [], ◌∷◌, codes}
use Rattle.std.specs.List.{flat_map}
use Rattle.cv_base.specs.declared.plan.Mode.TheVariants.{Learn, Live}
use Rattle.cv_base.specs.PlanOf.{PlanOf}
use Rattle.cv_histories.specs.DrillPlan.{flat_image}
use Rattle.cv_histories.specs.Report.{line}

abbrev pub no_repairs_words : List ℕ
no_repairs_words =
    0x00000513 ∷ 0xff010593 ∷ 0x00200613 ∷ 0x03f00893 ∷ 0x00000073 ∷ 0xff014303 ∷ 0xff114383 ∷ 0x007346b3 ∷
    0x04d00413 ∷ 0x00830a63 ∷ 0x007304b3 ∷ 0x00048513 ∷ 0x05d00893 ∷ 0x00000073 ∷ 0x007344b3 ∷ 0x00100073 ∷ []

abbrev pub no_repairs_plan : PlanOf
no_repairs_plan = record {
  image = flat_image no_repairs_words;
  workers = 1;
  checks = 8;
  budget = 1000;
  rounds =
      record { mode = Learn; inputs = (0 ∷ 9 ∷ []) ∷ (1 ∷ 200 ∷ []) ∷ (80 ∷ 99 ∷ []) ∷ (33 ∷ 180 ∷ []) ∷ (78 ∷ 79 ∷ []) ∷ (255 ∷ 255 ∷ []) ∷ (76 ∷ 76 ∷ []) ∷ [] } ∷
      record { mode = Live; inputs = (77 ∷ 80 ∷ []) ∷ (77 ∷ 255 ∷ []) ∷ (77 ∷ 0 ∷ []) ∷ (77 ∷ 77 ∷ []) ∷ (77 ∷ 78 ∷ []) ∷ (77 ∷ 3 ∷ []) ∷ (77 ∷ 90 ∷ []) ∷ (77 ∷ 91 ∷ []) ∷ (77 ∷ 92 ∷ []) ∷ (77 ∷ 93 ∷ []) ∷ (77 ∷ 94 ∷ []) ∷ (5 ∷ 5 ∷ []) ∷ [] } ∷ [];
}

abbrev pub no_repairs_report : List ℕ
no_repairs_report = flat_map line (
    codes "clearview report 2" ∷
    codes "job workers 1 checks 8 budget 1000 rounds 2 runs 19" ∷
    codes "entry 0 run 0 worker 0 mode learn adopted - end exit:9 turns 14 sites - output - tally - fired -" ∷
    codes "entry 1 run 1 worker 0 mode learn adopted - end exit:201 turns 14 sites - output - tally - fired -" ∷
    codes "entry 2 run 2 worker 0 mode learn adopted - end exit:179 turns 14 sites - output - tally - fired -" ∷
    codes "entry 3 run 3 worker 0 mode learn adopted - end exit:213 turns 14 sites - output - tally - fired -" ∷
    codes "entry 4 run 4 worker 0 mode learn adopted - end exit:157 turns 14 sites - output - tally - fired -" ∷
    codes "entry 5 run 5 worker 0 mode learn adopted - end exit:510 turns 14 sites - output - tally - fired -" ∷
    codes "entry 6 run 6 worker 0 mode learn adopted - end exit:152 turns 14 sites - output - tally - fired -" ∷
    codes "entry 7 run 7 worker 0 mode live adopted 0:3 end failure:crash-break:0001003C:00000000 turns 12 sites 0001003C output - tally - fired -" ∷
    codes "entry 8 run 8 worker 0 mode live adopted 1:3 end failure:crash-break:0001003C:00000000 turns 12 sites 0001003C output - tally 0.28:1:0:held,0.29:1:0:held,0.30:1:0:held,0.31:1:0:held,0.32:1:0:held,0.33:1:0:held,0.34:1:0:held,0.35:1:0:held,0.36:1:0:held,0.37:1:0:held,0.38:1:0:held,0.39:1:0:held,0.40:1:0:held,0.41:1:0:held,0.42:1:0:held,0.43:1:0:held,0.44:1:0:held,0.45:1:0:held,0.46:1:0:held,0.47:1:0:held,0.48:1:0:held,0.49:1:0:held,0.50:1:0:held,0.51:1:0:held,0.52:1:0:held,0.53:1:0:held,0.54:1:0:held,0.55:1:0:held,0.56:1:0:held,0.57:1:0:held,0.58:1:0:held,0.59:1:0:held,0.60:1:0:held,0.61:1:0:held,0.62:1:0:held,0.63:1:0:held fired -" ∷
    codes "entry 9 run 9 worker 0 mode live adopted 1:3 end failure:crash-break:0001003C:00000000 turns 12 sites 0001003C output - tally 0.28:1:0:held,0.29:1:0:held,0.30:1:0:held,0.31:1:1:failed,0.32:1:0:held,0.33:1:0:held,0.34:1:0:held,0.35:1:0:held,0.36:1:1:failed,0.37:1:0:held,0.38:1:1:failed,0.39:1:0:held,0.40:1:0:held,0.41:1:0:held,0.42:1:0:held,0.43:1:0:held,0.44:1:0:held,0.45:1:0:held,0.46:1:0:held,0.47:1:0:held,0.48:1:0:held,0.49:1:0:held,0.50:1:0:held,0.51:1:0:held,0.52:1:0:held,0.53:1:0:held,0.54:1:0:held,0.55:1:0:held,0.56:1:0:held,0.57:1:0:held,0.58:1:0:held,0.59:1:0:held,0.60:1:0:held,0.61:1:0:held,0.62:1:0:held,0.63:1:0:held fired -" ∷
    codes "entry 10 run 10 worker 0 mode live adopted 1:3 end failure:crash-break:0001003C:00000000 turns 12 sites 0001003C output - tally 0.28:1:0:held,0.29:1:0:held,0.30:1:0:held,0.31:1:0:held,0.32:1:0:held,0.33:1:0:held,0.34:1:0:held,0.35:1:0:held,0.36:1:0:held,0.37:1:0:held,0.38:1:0:held,0.39:1:0:held,0.40:1:0:held,0.41:1:0:held,0.42:1:0:held,0.43:1:0:held,0.44:1:0:held,0.45:1:0:held,0.46:1:0:held,0.47:1:0:held,0.48:1:0:held,0.49:1:0:held,0.50:1:0:held,0.51:1:0:held,0.52:1:0:held,0.53:1:0:held,0.54:1:0:held,0.55:1:0:held,0.56:1:0:held,0.57:1:0:held,0.58:1:0:held,0.59:1:0:held,0.60:1:0:held,0.61:1:0:held,0.62:1:0:held,0.63:1:0:held fired -" ∷
    codes "entry 11 run 11 worker 0 mode live adopted 1:3 end failure:crash-break:0001003C:00000000 turns 12 sites 0001003C output - tally 0.28:1:0:held,0.29:1:0:held,0.30:1:0:held,0.31:1:0:held,0.32:1:0:held,0.33:1:0:held,0.34:1:0:held,0.35:1:0:held,0.36:1:0:held,0.37:1:0:held,0.38:1:0:held,0.39:1:0:held,0.40:1:0:held,0.41:1:0:held,0.42:1:0:held,0.43:1:0:held,0.44:1:0:held,0.45:1:0:held,0.46:1:0:held,0.47:1:0:held,0.48:1:0:held,0.49:1:0:held,0.50:1:0:held,0.51:1:0:held,0.52:1:0:held,0.53:1:0:held,0.54:1:0:held,0.55:1:0:held,0.56:1:0:held,0.57:1:0:held,0.58:1:0:held,0.59:1:0:held,0.60:1:0:held,0.61:1:0:held,0.62:1:0:held,0.63:1:0:held fired -" ∷
    codes "entry 12 run 12 worker 0 mode live adopted 1:3 end failure:crash-break:0001003C:00000000 turns 12 sites 0001003C output - tally 0.28:1:0:held,0.29:1:0:held,0.30:1:0:held,0.31:1:1:failed,0.32:1:0:held,0.33:1:0:held,0.34:1:0:held,0.35:1:0:held,0.36:1:1:failed,0.37:1:0:held,0.38:1:1:failed,0.39:1:0:held,0.40:1:0:held,0.41:1:0:held,0.42:1:0:held,0.43:1:0:held,0.44:1:0:held,0.45:1:0:held,0.46:1:0:held,0.47:1:0:held,0.48:1:0:held,0.49:1:0:held,0.50:1:0:held,0.51:1:0:held,0.52:1:0:held,0.53:1:0:held,0.54:1:0:held,0.55:1:0:held,0.56:1:0:held,0.57:1:0:held,0.58:1:0:held,0.59:1:0:held,0.60:1:0:held,0.61:1:0:held,0.62:1:0:held,0.63:1:0:held fired -" ∷
    codes "entry 13 run 13 worker 0 mode live adopted 1:3 end failure:crash-break:0001003C:00000000 turns 12 sites 0001003C output - tally 0.28:1:0:held,0.29:1:0:held,0.30:1:0:held,0.31:1:0:held,0.32:1:0:held,0.33:1:0:held,0.34:1:0:held,0.35:1:0:held,0.36:1:0:held,0.37:1:0:held,0.38:1:0:held,0.39:1:0:held,0.40:1:0:held,0.41:1:0:held,0.42:1:0:held,0.43:1:0:held,0.44:1:0:held,0.45:1:0:held,0.46:1:0:held,0.47:1:0:held,0.48:1:0:held,0.49:1:0:held,0.50:1:0:held,0.51:1:0:held,0.52:1:0:held,0.53:1:0:held,0.54:1:0:held,0.55:1:0:held,0.56:1:0:held,0.57:1:0:held,0.58:1:0:held,0.59:1:0:held,0.60:1:0:held,0.61:1:0:held,0.62:1:0:held,0.63:1:0:held fired -" ∷
    codes "entry 14 run 14 worker 0 mode live adopted 1:3 end failure:crash-break:0001003C:00000000 turns 12 sites 0001003C output - tally 0.28:1:0:held,0.29:1:0:held,0.30:1:0:held,0.31:1:0:held,0.32:1:0:held,0.33:1:0:held,0.34:1:0:held,0.35:1:0:held,0.36:1:0:held,0.37:1:0:held,0.38:1:0:held,0.39:1:0:held,0.40:1:0:held,0.41:1:0:held,0.42:1:0:held,0.43:1:0:held,0.44:1:0:held,0.45:1:0:held,0.46:1:0:held,0.47:1:0:held,0.48:1:0:held,0.49:1:0:held,0.50:1:0:held,0.51:1:0:held,0.52:1:0:held,0.53:1:0:held,0.54:1:0:held,0.55:1:0:held,0.56:1:0:held,0.57:1:0:held,0.58:1:0:held,0.59:1:0:held,0.60:1:0:held,0.61:1:0:held,0.62:1:0:held,0.63:1:0:held fired -" ∷
    codes "entry 15 run 15 worker 0 mode live adopted 1:3 end failure:crash-break:0001003C:00000000 turns 12 sites 0001003C output - tally 0.28:1:0:held,0.29:1:0:held,0.30:1:0:held,0.31:1:0:held,0.32:1:0:held,0.33:1:0:held,0.34:1:0:held,0.35:1:0:held,0.36:1:0:held,0.37:1:0:held,0.38:1:0:held,0.39:1:0:held,0.40:1:0:held,0.41:1:0:held,0.42:1:0:held,0.43:1:0:held,0.44:1:0:held,0.45:1:0:held,0.46:1:0:held,0.47:1:0:held,0.48:1:0:held,0.49:1:0:held,0.50:1:0:held,0.51:1:0:held,0.52:1:0:held,0.53:1:0:held,0.54:1:0:held,0.55:1:0:held,0.56:1:0:held,0.57:1:0:held,0.58:1:0:held,0.59:1:0:held,0.60:1:0:held,0.61:1:0:held,0.62:1:0:held,0.63:1:0:held fired -" ∷
    codes "entry 16 run 16 worker 0 mode live adopted 2:3 end failure:crash-break:0001003C:00000000 turns 12 sites 0001003C output - tally - fired -" ∷
    codes "entry 17 run 17 worker 0 mode live adopted 2:3 end failure:crash-break:0001003C:00000000 turns 12 sites 0001003C output - tally - fired -" ∷
    codes "entry 18 run 18 worker 0 mode live adopted 2:3 end exit:10 turns 14 sites - output - tally - fired -" ∷
    codes "version 0 entry - patches 0" ∷
    codes "version 1 entry 7 patches 64" ∷
    codes "version 2 entry 15 patches 0" ∷
    codes "case 0 crash-break 0001003C opened 7 checked 8 state dropped" ∷
    codes "candidate 0.0 one-of 00010034 x11 007FFFF0 class not" ∷
    codes "candidate 0.1 one-of 00010034 x12 00000002 class not" ∷
    codes "candidate 0.2 one-of 00010034 x17 0000005D class not" ∷
    codes "candidate 0.3 lower 00010034 x10 00000009 class not" ∷
    codes "candidate 0.4 less-than 00010034 x6 x10 class not" ∷
    codes "candidate 0.5 less-than 00010034 x6 x11 class not" ∷
    codes "candidate 0.6 less-than 00010034 x7 x10 class not" ∷
    codes "candidate 0.7 less-than 00010034 x7 x11 class not" ∷
    codes "candidate 0.8 less-than 00010034 x9 x10 class not" ∷
    codes "candidate 0.9 less-than 00010034 x9 x11 class not" ∷
    codes "candidate 0.10 less-than 00010034 x10 x9 class not" ∷
    codes "candidate 0.11 less-than 00010034 x10 x11 class not" ∷
    codes "candidate 0.12 less-than 00010034 x12 x7 class not" ∷
    codes "candidate 0.13 less-than 00010034 x12 x9 class not" ∷
    codes "candidate 0.14 less-than 00010034 x12 x10 class not" ∷
    codes "candidate 0.15 less-than 00010034 x12 x11 class not" ∷
    codes "candidate 0.16 less-than 00010034 x12 x17 class not" ∷
    codes "candidate 0.17 less-than 00010034 x17 x11 class not" ∷
    codes "candidate 0.18 sp-offset 00010034 00000000 class not" ∷
    codes "candidate 0.19 sp-offset 00010030 00000000 class not" ∷
    codes "candidate 0.20 lower 0001002C x9 00000009 class not" ∷
    codes "candidate 0.21 less-than 0001002C x6 x9 class not" ∷
    codes "candidate 0.22 less-than 0001002C x7 x9 class not" ∷
    codes "candidate 0.23 sp-offset 0001002C 00000000 class not" ∷
    codes "candidate 0.24 lower 00010028 x6 00000000 class not" ∷
    codes "candidate 0.25 lower 00010028 x7 00000009 class not" ∷
    codes "candidate 0.26 less-than 00010028 x6 x7 class not" ∷
    codes "candidate 0.27 sp-offset 00010028 00000000 class not" ∷
    codes "candidate 0.28 one-of 00010024 x8 0000004D class not" ∷
    codes "candidate 0.29 lower 00010024 x6 00000000 class not" ∷
    codes "candidate 0.30 less-than 00010024 x6 x2 class not" ∷
    codes "candidate 0.31 less-than 00010024 x6 x7 class slightly" ∷
    codes "candidate 0.32 less-than 00010024 x8 x2 class not" ∷
    codes "candidate 0.33 sp-offset 00010024 00000000 class not" ∷
    codes "candidate 0.34 sp-offset 00010020 00000000 class not" ∷
    codes "candidate 0.35 lower 0001001C x6 00000000 class not" ∷
    codes "candidate 0.36 lower 0001001C x7 00000009 class slightly" ∷
    codes "candidate 0.37 less-than 0001001C x6 x2 class not" ∷
    codes "candidate 0.38 less-than 0001001C x6 x7 class slightly" ∷
    codes "candidate 0.39 less-than 0001001C x7 x2 class not" ∷
    codes "candidate 0.40 sp-offset 0001001C 00000000 class not" ∷
    codes "candidate 0.41 one-of 00010018 x2 00800000 class not" ∷
    codes "candidate 0.42 sp-offset 00010018 00000000 class not" ∷
    codes "candidate 0.43 one-of 00010014 x2 00800000 class not" ∷
    codes "candidate 0.44 sp-offset 00010014 00000000 class not" ∷
    codes "candidate 0.45 one-of 00010010 x10 00000000 class not" ∷
    codes "candidate 0.46 one-of 00010010 x11 007FFFF0 class not" ∷
    codes "candidate 0.47 one-of 00010010 x12 00000002 class not" ∷
    codes "candidate 0.48 one-of 00010010 x17 0000003F class not" ∷
    codes "candidate 0.49 less-than 00010010 x10 x2 class not" ∷
    codes "candidate 0.50 less-than 00010010 x10 x11 class not" ∷
    codes "candidate 0.51 less-than 00010010 x10 x12 class not" ∷
    codes "candidate 0.52 less-than 00010010 x10 x17 class not" ∷
    codes "candidate 0.53 less-than 00010010 x11 x2 class not" ∷
    codes "candidate 0.54 less-than 00010010 x12 x2 class not" ∷
    codes "candidate 0.55 less-than 00010010 x12 x11 class not" ∷
    codes "candidate 0.56 less-than 00010010 x12 x17 class not" ∷
    codes "candidate 0.57 less-than 00010010 x17 x2 class not" ∷
    codes "candidate 0.58 less-than 00010010 x17 x11 class not" ∷
    codes "candidate 0.59 sp-offset 00010010 00000000 class not" ∷
    codes "candidate 0.60 sp-offset 0001000C 00000000 class not" ∷
    codes "candidate 0.61 sp-offset 00010008 00000000 class not" ∷
    codes "candidate 0.62 one-of 00010004 x2 00800000 class not" ∷
    codes "candidate 0.63 sp-offset 00010004 00000000 class not" ∷
    codes "learned 65" ∷
    codes "end" ∷ [])
