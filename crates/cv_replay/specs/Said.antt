-- The steps of a run as its entry says them, the state before each of its turns, and since which turn
-- a part of the state has its value (docs/REPAIR.md, "Replay").
use Rattle.std.specs.Prelude.{ℕ, suc, zero, Bool, true, ◌==◌, if◌then◌else◌, List, [], map, Option, Some, None, option_map, slice_get, slice_index_or}
use Rattle.cv_base.specs.declared.entries.Adopted.{Adopted}
use Rattle.cv_base.specs.declared.entries.Entry.{Entry}
use Rattle.cv_base.specs.declared.plan.Mode.{Mode}
use Rattle.cv_base.specs.declared.plan.Mode.TheVariants.{Learn, Live}
use Rattle.cv_base.specs.PlanOf.{PlanOf}
use Rattle.cv_histories.specs.Rows.{written}
use Rattle.cv_histories.specs.Runs.{Run, run_at}
use Rattle.cv_runs.specs.PatchedRun.{PatchedStep, Table, patched_run, steps_of}
use Rattle.cv_runs.specs.PlainRun.{Step, plain_run}
use Rattle.cv_runs.specs.State.{State}

-- ---- the steps

-- the table of each block entry of a run that adopted these, of a list of versions
abbrev pub tables_of : List Table → List Adopted → List Table
tables_of versions rows = map (λ (v : ℕ). slice_index_or versions v []) (written rows)

abbrev pub steps_in : Option (List PatchedStep) → List Step
steps_in None = []
steps_in (Some steps) = steps_of steps

-- a learn run is the plain run, and a live run the patched run under the tables that it adopted
abbrev pub steps_by : Mode → PlanOf → List Table → List ℕ → List Adopted → List Step
steps_by Learn plan versions input rows = plain_run plan.image input plan.budget
steps_by Live plan versions input rows = steps_in (patched_run plan.image input plan.budget (tables_of versions rows))

abbrev pub steps_with : PlanOf → List Table → List Adopted → Option Run → List Step
steps_with plan versions rows None = []
steps_with plan versions rows (Some run) = steps_by run.mode plan versions run.input rows

abbrev pub steps_said : PlanOf → List Table → Entry → List Step
steps_said plan versions e = steps_with plan versions e.adopted (run_at plan e.run)

-- ---- states and values

-- the state before a turn; none where the run has no such turn
abbrev pub state_before : List Step → ℕ → Option State
state_before steps turn = option_map (λ (step : Step). step.before) (slice_get steps turn)

-- a part of it, as the value of a register, or the byte at an address
abbrev pub value_before : (State → ℕ) → List Step → ℕ → Option ℕ
value_before part steps turn = option_map part (state_before steps turn)

abbrev pub are_same : Option ℕ → Option ℕ → Bool
are_same (Some a) (Some b) = a == b
are_same _ _ = true

-- the greatest turn below this one before which the value is another than before the next turn; none
-- where it is the same before all of them
abbrev pub changed_before : (ℕ → Option ℕ) → ℕ → Option ℕ
changed_before value zero = None
changed_before value (suc turn) = if are_same (value turn) (value (suc turn)) then changed_before value turn else Some turn
