-- A plan's line of a report, without its line feed (docs/FORMATS.md, "Report").
use Rattle.std.specs.Prelude.{ℕ, List, ◌++◌, length, codes}
use Rattle.std.specs.Fmt.{decimal}
use Rattle.cv_base.specs.PlanOf.{PlanOf, runs_of}

abbrev pub line_with : ℕ → ℕ → ℕ → ℕ → ℕ → List ℕ
line_with workers checks budget rounds runs =
    codes "job workers " ++ decimal workers ++ codes " checks " ++ decimal checks ++ codes " budget " ++ decimal budget ++
    codes " rounds " ++ decimal rounds ++ codes " runs " ++ decimal runs

abbrev pub job_line : PlanOf → List ℕ
job_line plan = line_with plan.workers plan.checks plan.budget (length plan.rounds) (runs_of plan.rounds)
