-- A run in flight has the steps that its adopted versions make (docs/REPAIR.md, "The world").
use Rattle.std.specs.Prelude.{◌≡◌, ◌≤◌, ◌<◌, ℕ, Bool, true, false, ◌+◌, List, [], ◌++◌, length, reverse, Option, Some, None, option_map, slice_get}
use Rattle.std.specs.List.{AllByRecursion}
use Rattle.cv_base.specs.declared.plan.Mode.{Mode}
use Rattle.cv_base.specs.declared.plan.Mode.TheVariants.{Learn, Live}
use Rattle.cv_base.specs.PlanOf.{PlanOf}
use Rattle.cv_histories.specs.Honest.{AreTables}
use Rattle.cv_histories.specs.Flight.{Flight, at_entry, done_in}
use Rattle.cv_runs.specs.PatchedRun.{PatchedStep, Table, entries_in, patched_from, steps_of}
use Rattle.cv_runs.specs.PlainRun.{Step, steps_from}
use Rattle.cv_runs.specs.State.{start_state}

-- ---- live runs

-- the first turns of the run under tables
abbrev pub turns_under : PlanOf → Flight → List Table → ℕ → Option (List PatchedStep)
turns_under plan f tables turns = patched_from plan.image (slice_get tables) turns (start_state plan.image f.run.input) None false 0 []

-- its next turn has the table that was adopted for it, or else the table of its last turn
abbrev pub IsDue : PlanOf → Flight → List Table → Table → Bool → Type 0
IsDue plan f tables current true = (at_entry f ≡ true) × (length f.steps < plan.budget) × (slice_get tables (entries_in (done_in f)) ≡ Some f.table) × (length tables ≡ entries_in (done_in f) + 1)
IsDue plan f tables current false = (current ≡ f.table) × (length tables ≡ entries_in (done_in f))

-- a live run that no end has stopped goes on from its state, whichever tables come behind these
pub record GoesPatched (plan : PlanOf) (f : Flight) (tables : List Table) : Type 0 where
  pub current : Table  -- of its last turn
  pub goes : (turns : ℕ) (more : List Table) → turns_under plan f (tables ++ more) (length f.steps + turns) ≡ option_map (λ (rest : List PatchedStep). done_in f ++ rest) (patched_from plan.image (slice_get (tables ++ more)) turns f.state f.since f.transferred (entries_in (done_in f)) current)
  pub due : IsDue plan f tables current f.entered

-- a live run that an end has stopped
pub record IsOverPatched (plan : PlanOf) (f : Flight) (tables : List Table) : Type 0 where
  pub whole : (turns : ℕ) → turns_under plan f tables (length f.steps + turns) ≡ Some (done_in f)
  pub all : length tables ≡ entries_in (done_in f)

abbrev pub StandsPatched : PlanOf → Flight → List Table → Bool → Type 0
StandsPatched plan f tables false = GoesPatched plan f tables
StandsPatched plan f tables true = IsOverPatched plan f tables

-- the tables are those of the versions that it adopted
pub record FliesPatched (plan : PlanOf) (versions : List Table) (f : Flight) : Type 0 where
  pub tables : List Table
  pub adopted : AreTables versions (reverse f.versions) tables
  pub stands : StandsPatched plan f tables f.over

-- ---- learn runs

-- what follows its steps so far
abbrev pub rest_of : PlanOf → Flight → Bool → ℕ → List Step
rest_of plan f true turns = []
rest_of plan f false turns = steps_from plan.image turns f.state

pub record FliesPlain (plan : PlanOf) (f : Flight) : Type 0 where
  pub none : f.versions ≡ []
  pub goes : (turns : ℕ) → steps_from plan.image (length f.steps + turns) (start_state plan.image f.run.input) ≡ steps_of (done_in f) ++ rest_of plan f f.over turns
  pub unpatched : AllByRecursion (λ (step : PatchedStep). step.notes ≡ []) f.steps

-- ---- both

abbrev pub FliesBy : Mode → PlanOf → List Table → Flight → Type 0
FliesBy Learn plan versions f = FliesPlain plan f
FliesBy Live plan versions f = FliesPatched plan versions f

-- a run in flight under versions of these tables
pub record Flies (plan : PlanOf) (versions : List Table) (f : Flight) : Type 0 where
  pub of_mode : FliesBy f.run.mode plan versions f
  pub within : length f.steps ≤ plan.budget
