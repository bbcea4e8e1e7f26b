-- What is learned from the run of a number.
use Rattle.std.specs.Prelude.{ℕ, List, [], Option, Some, None}
use Rattle.cv_base.specs.declared.entries.Observation.{Observation}
use Rattle.cv_base.specs.PlanOf.{PlanOf}
use Rattle.cv_histories.specs.OtherTexts.{seen_in_learn_run}
use Rattle.cv_histories.specs.Runs.{Run, run_at}

-- what is seen in a run that is learned from, where there is one
abbrev pub seen_of : PlanOf → Option Run → List Observation
seen_of plan None = []
seen_of plan (Some run) = seen_in_learn_run plan run

abbrev pub seen_in_run_at : PlanOf → ℕ → List Observation
seen_in_run_at plan number = seen_of plan (run_at plan number)
