-- A learn run of a plan: its steps, and its entry (docs/REPAIR.md, "Learning" and "Entries").
use Rattle.std.specs.Prelude.{◌≡◌, ℕ, List, [], Option, Some, None, option_map, IsSomeAnd}
use Rattle.cv_base.specs.declared.entries.Entry.{Entry}
use Rattle.cv_base.specs.declared.plan.Mode.TheVariants.{Learn}
use Rattle.cv_base.specs.PlanOf.{PlanOf}
use Rattle.cv_runs.specs.PlainRun.{Step, plain_run}
use Rattle.cv_histories.specs.Runs.{Run, run_at}
use Rattle.cv_histories.specs.Serial.{learn_entry}

-- the number is that of a learn run of the plan
abbrev pub IsLearnRun : PlanOf → ℕ → Type 0
IsLearnRun plan number = IsSomeAnd (run_at plan number) (λ (run : Run). run.mode ≡ Learn)

-- the steps of the plain run of this number
abbrev pub steps_with : PlanOf → Option Run → List Step
steps_with plan None = []
steps_with plan (Some run) = plain_run plan.image run.input plan.budget

abbrev pub learn_steps : PlanOf → ℕ → List Step
learn_steps plan number = steps_with plan (run_at plan number)

-- the entry of the learn run of this number by a worker
abbrev pub entry_with : PlanOf → ℕ → ℕ → Run → Entry
entry_with plan number worker run =
    record (learn_entry plan number run (plain_run plan.image run.input plan.budget)) { worker = worker }

abbrev pub entry_by : PlanOf → ℕ → ℕ → Option Entry
entry_by plan number worker = option_map (entry_with plan number worker) (run_at plan number)
