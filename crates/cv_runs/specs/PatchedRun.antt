-- A patched run: at each block entry a table is adopted, whose patches come before each turn
-- until the next block entry (docs/REPAIR.md, "Patched runs").
use Rattle.std.specs.Prelude.{ℕ, suc, zero, Bool, true, false, ◌==◌, ◌+◌, if◌then◌else◌, List, [], ◌∷◌, length, filter, map, Option, Some, None, option_map, option_and_then, slice_get}
use Rattle.std.specs.List.{flat_map}
use Rattle.cv_base.specs.declared.patches.Patch.{Patch}
use Rattle.cv_base.specs.Picture.{Picture, is_point}
use Rattle.cv_runs.specs.Apply.{Note, Left, apply}
use Rattle.cv_runs.specs.BlockEntries.{is_entry, since_next}
use Rattle.cv_runs.specs.PlainRun.{Step}
use Rattle.cv_runs.specs.PlainTurn.{turn_of}
use Rattle.cv_runs.specs.State.{State, Outcome, Next, Ended, start_state}
use Rattle.cv_shadow.specs.declared.frames.Core.{Core}

abbrev pub Table : Type 0
Table = List Patch

pub record PatchedTurn : Type 0 where
  pub notes : List Note
  pub outcome : Outcome

abbrev pub with_core : State → Core → State
with_core s core = record s { core = core }

-- where no patch acted, the turn follows; where one acted, the turn is used up, as a transfer
abbrev pub turn_after : Picture → State → Left → PatchedTurn
turn_after image s left =
    elim (left.acted) [
      | true ↦ record { notes = left.notes; outcome = Next (with_core s left.core) true }
      | false ↦ record { notes = left.notes; outcome = turn_of image (with_core s left.core) }
    ]

abbrev pub patched_turn : Picture → Table → State → PatchedTurn
patched_turn image table s = turn_after image s (apply (is_point image) s.core.pc table s.core)

pub record PatchedStep : Type 0 where
  pub before : State
  pub enters : Bool  -- whether the turn is a block entry
  pub notes : List Note
  pub outcome : Outcome

abbrev pub patched_step : State → Bool → PatchedTurn → PatchedStep
patched_step s enters turn = record { before = s; enters = enters; notes = turn.notes; outcome = turn.outcome }

-- a step, and what follows it where the run goes on
abbrev pub followed : PatchedStep → Outcome → (State → Bool → Option (List PatchedStep)) → Option (List PatchedStep)
followed step (Next next transfer) rest = option_map (λ (steps : List PatchedStep). step ∷ steps) (rest next transfer)
followed step (Ended end) rest = Some (step ∷ [])

-- a run that has made `made` block entries and runs `table`; the k-th block entry, from 0, adopts
-- `tables k`. There is no run where a table is missing
unfoldable pub patched_from : Picture → (ℕ → Option Table) → ℕ → State → Option ℕ → Bool → ℕ → Table → Option (List PatchedStep)
patched_from image tables zero s since transferred made table = Some []
patched_from image tables (suc budget) s since transferred made table =
    let enters = is_entry since transferred in
    let turn_with = λ (t : Table). patched_turn image t s in
    option_and_then (λ (t : Table). followed (patched_step s enters (turn_with t)) (turn_with t).outcome
    (λ next transfer. patched_from image tables budget next (since_next enters since) transfer (if enters then made + 1 else made) t))
    (if enters then tables made else Some table)

abbrev pub entries_in : List PatchedStep → ℕ
entries_in steps = length (filter (λ (step : PatchedStep). step.enters) steps)

abbrev pub only_if : {A : Type 0} → (A → Bool) → Option A → Option A
only_if test None = None
only_if test (Some a) = if test a then Some a else None

-- the run under tables, one for each block entry; none where they are too few or too many
abbrev pub patched_run : Picture → List ℕ → ℕ → List Table → Option (List PatchedStep)
patched_run image input budget tables =
    only_if (λ steps. entries_in steps == length tables)
    (patched_from image (slice_get tables) budget (start_state image input) None false 0 [])

-- the run under one table at all its block entries
abbrev pub run_under : Picture → List ℕ → ℕ → Table → Option (List PatchedStep)
run_under image input budget table = patched_from image (λ k. Some table) budget (start_state image input) None false 0 []

-- the states and outcomes alone, from which end, turns and output are read as of a plain run
abbrev pub steps_of : List PatchedStep → List Step
steps_of steps = map (λ (step : PatchedStep). record { before = step.before; outcome = step.outcome }) steps

abbrev pub notes_of : List PatchedStep → List Note
notes_of steps = flat_map (λ (step : PatchedStep). step.notes) steps
