-- An entry is honest where it says what its run did (docs/REPAIR.md, "Entries").
use Rattle.std.specs.Prelude.{◌≡◌, ◌≢◌, ◌≤◌, ℕ, List, [], ◌∷◌, length, Some, slice_get}
use Rattle.cv_base.specs.declared.entries.Adopted.{Adopted}
use Rattle.cv_base.specs.declared.entries.Entry.{Entry}
use Rattle.cv_base.specs.declared.plan.Mode.{Mode}
use Rattle.cv_base.specs.declared.plan.Mode.TheVariants.{Learn, Live}
use Rattle.cv_base.specs.PlanOf.{PlanOf}
use Rattle.cv_runs.specs.PatchedRun.{PatchedStep, Table, patched_run, steps_of, notes_of}
use Rattle.cv_runs.specs.PlainRun.{Step, plain_run, end_of, state_left}
use Rattle.cv_runs.specs.State.{start_state}
use Rattle.cv_histories.specs.Runs.{Run, run_at}
use Rattle.cv_histories.specs.Rows.{sites_in, checks_in, firings_in, tally_of, fired_of, written}

-- neighbours have different versions, and each count is at least 1
abbrev pub IsJoined : List Adopted → Type 0
IsJoined [] = Unit {0}
IsJoined (a ∷ []) = 1 ≤ a.entries
IsJoined (a ∷ b ∷ rest) = (1 ≤ a.entries) × (a.version ≢ b.version) × IsJoined (b ∷ rest)

-- the tables at these places of a list of versions
abbrev pub AreTables : List Table → List ℕ → List Table → Type 0
AreTables versions [] [] = Unit {0}
AreTables versions (v ∷ vs) (t ∷ ts) = (slice_get versions v ≡ Some t) × AreTables versions vs ts
AreTables versions _ _ = ⊥

-- what an entry says of the steps of its run
pub record Tells (plan : PlanOf) (input : List ℕ) (steps : List Step) (e : Entry) : Type 0 where
  pub end : e.end ≡ end_of steps
  pub turns : e.turns ≡ length steps
  pub output : e.output ≡ (state_left (start_state plan.image input) steps).output
  pub sites : e.sites ≡ sites_in steps

-- a live entry is of the patched run under the tables of its adopted versions
pub record IsLive (plan : PlanOf) (versions : List Table) (input : List ℕ) (e : Entry) : Type 0 where
  pub tables : List Table
  pub steps : List PatchedStep
  pub joined : IsJoined e.adopted
  pub adopted : AreTables versions (written e.adopted) tables
  pub ran : patched_run plan.image input plan.budget tables ≡ Some steps
  pub tells : Tells plan input (steps_of steps) e
  pub tally : e.tally ≡ tally_of (checks_in (notes_of steps))
  pub fired : e.fired ≡ fired_of (firings_in (notes_of steps))

-- a learn entry is of the plain run
pub record IsLearn (plan : PlanOf) (input : List ℕ) (e : Entry) : Type 0 where
  pub adopted : e.adopted ≡ []
  pub tells : Tells plan input (plain_run plan.image input plan.budget) e
  pub tally : e.tally ≡ []
  pub fired : e.fired ≡ []

abbrev pub IsOfMode : Mode → PlanOf → List Table → List ℕ → Entry → Type 0
IsOfMode Learn plan versions input e = IsLearn plan input e
IsOfMode Live plan versions input e = IsLive plan versions input e

pub record IsHonest (plan : PlanOf) (versions : List Table) (e : Entry) : Type 0 where
  pub run : Run
  pub of_plan : run_at plan e.run ≡ Some run
  pub mode : e.mode ≡ run.mode
  pub as_it_ran : IsOfMode e.mode plan versions run.input e
