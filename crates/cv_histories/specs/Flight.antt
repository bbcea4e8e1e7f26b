-- A run in flight: what it has done so far, and what a block entry and a turn make of it
-- (docs/REPAIR.md, "Runs in flight").
use Rattle.std.specs.Prelude.{ℕ, suc, zero, Bool, true, false, not, ◌&&◌, ◌||◌, ◌==◌, ◌+◌, if◌then◌else◌, List, [], ◌∷◌, length, reverse, Option, Some, None, slice_get}
use Rattle.cv_base.specs.declared.entries.Adopted.{Adopted}
use Rattle.cv_base.specs.declared.entries.Entry.{Entry}
use Rattle.cv_base.specs.PlanOf.{PlanOf}
use Rattle.cv_runs.specs.BlockEntries.{is_entry, since_next}
use Rattle.cv_runs.specs.PatchedRun.{PatchedStep, PatchedTurn, Table, patched_turn, patched_step, steps_of, notes_of}
use Rattle.cv_runs.specs.PlainTurn.{turn_of}
use Rattle.cv_runs.specs.State.{State, Outcome, Next, Ended, start_state}
use Rattle.cv_histories.specs.EntryOf.{entry_of}
use Rattle.cv_histories.specs.Runs.{Run}
use Rattle.cv_histories.specs.Seen.{is_live}

pub record Flight : Type 0 where
  pub number : ℕ
  pub run : Run
  pub state : State  -- before its next turn
  pub steps : List PatchedStep  -- so far, the newest first
  pub since : Option ℕ  -- turns since its last block entry
  pub transferred : Bool  -- whether its last turn was a transfer
  pub versions : List ℕ  -- adopted so far, one for each block entry, the newest first
  pub table : Table  -- of the version adopted last
  pub entered : Bool  -- whether it has entered before its next turn
  pub over : Bool  -- whether its last turn ended the run

-- before its first turn
abbrev pub begun : PlanOf → ℕ → Run → Flight
begun plan number run = record {
  number = number;
  run = run;
  state = start_state plan.image run.input;
  steps = [];
  since = None;
  transferred = false;
  versions = [];
  table = [];
  entered = false;
  over = false;
}

-- it has ended, by an end or by its budget
abbrev pub has_ended : PlanOf → Flight → Bool
has_ended plan f = f.over || (length f.steps == plan.budget)

-- a live run stands before a block entry
abbrev pub at_entry : Flight → Bool
at_entry f = is_live f.run.mode && is_entry f.since f.transferred

abbrev pub may_enter : PlanOf → Flight → Bool
may_enter plan f = not (has_ended plan f) && at_entry f && not f.entered

abbrev pub may_turn : PlanOf → Flight → Bool
may_turn plan f = not (has_ended plan f) && (not (at_entry f) || f.entered)

-- a block entry adopts a version, with its table
abbrev pub entered : ℕ → Table → Flight → Flight
entered version table f = record f { versions = version ∷ f.versions; table = table; entered = true }

-- one turn, patched in a live run and plain in a learn run
abbrev pub turned_by : Flight → PatchedStep → Outcome → Flight
turned_by f step (Next next transfer) = record f {
  state = next;
  steps = step ∷ f.steps;
  since = since_next step.enters f.since;
  transferred = transfer;
  entered = false;
}
turned_by f step (Ended end) = record f { steps = step ∷ f.steps; over = true; entered = false }

abbrev pub flight_turn : PlanOf → Flight → PatchedTurn
flight_turn plan f =
    elim (is_live f.run.mode) [
      | true ↦ patched_turn plan.image f.table f.state
      | false ↦ record { notes = []; outcome = turn_of plan.image f.state }
    ]

abbrev pub turned_with : Flight → PatchedTurn → Flight
turned_with f turn = turned_by f (patched_step f.state (is_entry f.since f.transferred) turn) turn.outcome

abbrev pub turned : PlanOf → Flight → Flight
turned plan f = turned_with f (flight_turn plan f)

-- versions with equal neighbours joined; from the newest first to the oldest first
abbrev pub joined_on : ℕ → List Adopted → List Adopted
joined_on v [] = record { version = v; entries = 1 } ∷ []
joined_on v (a ∷ rest) =
    if a.version == v then record { version = v; entries = a.entries + 1 } ∷ rest else record { version = v; entries = 1 } ∷ a ∷ rest

abbrev pub joined : List ℕ → List Adopted
joined [] = []
joined (v ∷ vs) = joined_on v (joined vs)

-- the steps so far, the oldest first
abbrev pub done_in : Flight → List PatchedStep
done_in f = reverse f.steps

-- its entry by a worker, once it has ended
abbrev pub flight_entry : PlanOf → ℕ → Flight → Entry
flight_entry plan worker f =
    entry_of plan (record { number = f.number; worker = worker; mode = f.run.mode; input = f.run.input }) (reverse (joined f.versions)) (steps_of (done_in f)) (notes_of (done_in f))

-- ---- a run that is told by its number of turns and by what its block entries adopted

pub record Adoption : Type 0 where
  pub version : ℕ
  pub table : Table

abbrev pub entered_by : Flight → Option Adoption → Flight
entered_by f None = f
entered_by f (Some a) = entered a.version a.table f

-- where it may enter, it adopts what comes next behind what it has adopted, if there is more
abbrev pub entered_next : PlanOf → List Adoption → Flight → Flight
entered_next plan adoptions f =
    elim (may_enter plan f) [ true ↦ entered_by f (slice_get adoptions (length f.versions)) | false ↦ f ]

abbrev pub turned_next : PlanOf → Flight → Flight
turned_next plan f = elim (may_turn plan f) [ true ↦ turned plan f | false ↦ f ]

-- the run after so many turns, with the adoptions of its block entries in their order, the one
-- before its next turn among them
unfoldable pub flown : PlanOf → List Adoption → Flight → ℕ → Flight
flown plan adoptions f zero = entered_next plan adoptions f
flown plan adoptions f (suc turns) = entered_next plan adoptions (turned_next plan (flown plan adoptions f turns))
