-- A law on runs that have an honest entry (docs/REPAIR.md, "Replay").
use Rattle.std.specs.Prelude.{◌≡◌, ◌<◌, ◌≤◌, ℕ, true, false, List, [], length, map, Some, slice_index_or}
use Rattle.cv_base.specs.declared.entries.Adopted.{Adopted}
use Rattle.cv_base.specs.declared.entries.Entry.{Entry}
use Rattle.cv_base.specs.PlanOf.{PlanOf}
use Rattle.cv_histories.specs.Flight.{Adoption, Flight, begun, flown, has_ended, may_turn}
use Rattle.cv_histories.specs.Honest.{IsHonest}
use Rattle.cv_histories.specs.Rows.{written}
use Rattle.cv_histories.specs.Runs.{Run, run_at}
use Rattle.cv_replay.specs.Said.{state_before, steps_said}
use Rattle.cv_runs.specs.PatchedRun.{Table}
use Rattle.cv_runs.specs.PlainRun.{Step}

-- a version of a list, with its table
abbrev pub adoption : List Table → ℕ → Adoption
adoption versions v = record { version = v; table = slice_index_or versions v [] }

-- what the block entries of a run adopt, one after another, by the rows of its entry
abbrev pub adoptions_said : List Table → List Adopted → List Adoption
adoptions_said versions rows = map (adoption versions) (written rows)

-- a run in flight stands before a turn of these steps, which it may take
pub record StandsBefore (plan : PlanOf) (steps : List Step) (turn : ℕ) (f : Flight) : Type 0 where
  pub goes_on : has_ended plan f ≡ false
  pub may : may_turn plan f ≡ true
  pub count : length f.steps ≡ turn
  pub state : state_before steps turn ≡ Some f.state

-- an honest entry's run, told by its turns and by the adoptions that the entry says, is where its
-- steps say, as many as the entry says
abbrev pub HonestIsFlown : Type 0
HonestIsFlown =
    (plan : PlanOf) (versions : List Table) (e : Entry) (run : Run) → IsHonest plan versions e → run_at plan e.run ≡ Some run
    → (e.turns ≡ length (steps_said plan versions e))
    × (1 ≤ plan.budget → 0 < length (steps_said plan versions e))
    × ((turn : ℕ) → turn < length (steps_said plan versions e)
    → StandsBefore plan (steps_said plan versions e) turn (flown plan (adoptions_said versions e.adopted) (begun plan e.run run) turn))
