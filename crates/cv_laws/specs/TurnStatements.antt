-- Laws on the turns of plain and patched runs (docs/REPAIR.md, "Patched runs").
use Rattle.std.specs.Prelude.{◌≡◌, ◌+◌, ℕ, zero, suc, Bool, false, if◌then◌else◌, List, [], Option, Some, None, length, slice_get}
use Rattle.cv_base.specs.Picture.{Picture}
use Rattle.cv_runs.specs.BlockEntries.{is_entry, since_next}
use Rattle.cv_runs.specs.PatchedRun.{PatchedStep, Table, entries_in, followed, patched_from, patched_run, patched_step, patched_turn}
use Rattle.cv_runs.specs.PlainRun.{stepped, steps_from}
use Rattle.cv_runs.specs.PlainTurn.{turn_of}
use Rattle.cv_runs.specs.State.{State, Outcome, start_state}

-- a plain run of no turns has no steps
abbrev pub NoPlainTurn : Type 0
NoPlainTurn = (image : Picture) (s : State) → steps_from image 0 s ≡ []

-- and one of more turns is its first turn and what follows it
abbrev pub PlainTurnFirst : Type 0
PlainTurnFirst =
    (image : Picture) (k : ℕ) (s : State) (o : Outcome) → turn_of image s ≡ o
    → steps_from image (suc k) s ≡ stepped s o (steps_from image k)

-- the step of a turn with a table
abbrev pub step_with : Picture → Table → State → Option ℕ → Bool → PatchedStep
step_with image table s since transferred = patched_step s (is_entry since transferred) (patched_turn image table s)

-- the table of a turn: the one adopted at its block entry, or the current one
abbrev pub table_at : (ℕ → Option Table) → Bool → ℕ → Table → Option Table
table_at tables enters made current = if enters then tables made else Some current

-- a patched run is its first turn and what follows it
abbrev pub PatchedTurnFirst : Type 0
PatchedTurnFirst =
    (image : Picture) (tables : ℕ → Option Table) (k : ℕ) (s : State) (since : Option ℕ) (transferred : Bool) (made : ℕ) (current table : Table) (o : Outcome)
    → table_at tables (is_entry since transferred) made current ≡ Some table
    → (patched_turn image table s).outcome ≡ o
    → patched_from image tables (suc k) s since transferred made current
    ≡ followed (step_with image table s since transferred) o
    (λ (next : State) (transfer : Bool). patched_from image tables k next (since_next (is_entry since transferred) since) transfer (if is_entry since transferred then made + 1 else made) table)

-- a run under tables is the run from its start on, with as many block entries
abbrev pub UnderTables : Type 0
UnderTables =
    (image : Picture) (input : List ℕ) (budget : ℕ) (tables : List Table) (steps : List PatchedStep) → patched_run image input budget tables ≡ Some steps
    → (patched_from image (slice_get tables) budget (start_state image input) None false 0 [] ≡ Some steps) × (entries_in steps ≡ length tables)
