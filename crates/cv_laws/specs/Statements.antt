-- Laws on histories (docs/REPAIR.md, "Laws on histories").
use Rattle.std.specs.Prelude.{◌≡◌, ◌<◌, ◌≤◌, ℕ, true, List, [], length, reverse, Some, slice_get}
use Rattle.std.specs.List.{AllByRecursion, fold}
use Rattle.cv_base.specs.declared.entries.Adopted.{Adopted}
use Rattle.cv_base.specs.declared.entries.Entry.{Entry}
use Rattle.cv_base.specs.PlanOf.{PlanOf, IsPlan}
use Rattle.cv_base.specs.declared.plan.Mode.TheVariants.{Learn}
use Rattle.cv_histories.specs.Flight.{Adoption, Flight, begun, done_in, flight_entry, flown, has_ended, joined}
use Rattle.cv_histories.specs.Honest.{IsHonest, IsJoined, IsLearn}
use Rattle.cv_histories.specs.Legal.{IsLegal, IsWhole, MayFollow, NeverFalls}
use Rattle.cv_histories.specs.Rows.{written}
use Rattle.cv_histories.specs.Runs.{Run, run_at, runs}
use Rattle.cv_histories.specs.Unfired.{SaysPlain, UnfiredArePlain}
use Rattle.cv_histories.specs.Serial.{learn_entry, serial}
use Rattle.cv_histories.specs.Versions.{ledger}
use Rattle.cv_histories.specs.World.{Event, World, after_event, start_world}
use Rattle.cv_laws.specs.InOrder.{AreBelow, AreByWorkerZero, IsNext}
use Rattle.cv_laws.specs.WorldStands.{Has, WorldStands}
use Rattle.cv_runs.specs.PatchedRun.{Table, steps_of}
use Rattle.cv_runs.specs.PlainRun.{plain_run}

-- the world after some events, the first one first
abbrev pub world_after : PlanOf → World → List Event → World
world_after plan w events = fold (after_event plan) w events

-- however instances draw, enter, turn and post, what they have posted is a legal history
abbrev pub EveryWorldIsLegal : Type 0
EveryWorldIsLegal =
    (plan : PlanOf) (instances : ℕ) (events : List Event) → instances ≤ plan.workers
    → IsLegal plan (world_after plan (start_world instances) events).history

-- what stays true of a world is so at its start and through any event
abbrev pub WorldsStand : Type 0
WorldsStand =
    (plan : PlanOf) → ((instances : ℕ) → instances ≤ plan.workers → WorldStands plan (start_world instances))
    × ((w : World) (e : Event) → WorldStands plan w → WorldStands plan (after_event plan w e))

-- and the entry of a run that has ended may follow what was posted
abbrev pub EndedMayFollow : Type 0
EndedMayFollow =
    (plan : PlanOf) (w : World) (i : ℕ) (f : Flight) → WorldStands plan w → Has w i f → has_ended plan f ≡ true
    → MayFollow plan w.history (flight_entry plan i f)

-- adoptions are of versions of these tables
abbrev pub AreOf : List Table → List Adoption → Type 0
AreOf versions adoptions = AllByRecursion (λ (a : Adoption). slice_get versions a.version ≡ Some a.table) adoptions

-- a run of the plan, told by its turns and its adoptions, has an honest entry at its end
abbrev pub FlownIsHonest : Type 0
FlownIsHonest =
    (plan : PlanOf) (versions : List Table) (adoptions : List Adoption) (number : ℕ) (run : Run) (turns worker : ℕ)
    → run_at plan number ≡ Some run
    → AreOf versions adoptions
    → has_ended plan (flown plan adoptions (begun plan number run) turns) ≡ true
    → IsHonest plan versions (flight_entry plan worker (flown plan adoptions (begun plan number run) turns))

-- it has its number and its run at every moment
abbrev pub FlownIsOf : Type 0
FlownIsOf =
    (plan : PlanOf) (adoptions : List Adoption) (number : ℕ) (run : Run) (turns : ℕ)
    → ((flown plan adoptions (begun plan number run) turns).number ≡ number) × ((flown plan adoptions (begun plan number run) turns).run ≡ run)

-- a learn run has made the steps of the plain run at its end, and has the entry of these
abbrev pub FlownIsPlain : Type 0
FlownIsPlain =
    (plan : PlanOf) (number worker : ℕ) (run : Run) (turns : ℕ) → run.mode ≡ Learn
    → has_ended plan (flown plan [] (begun plan number run) turns) ≡ true
    → (steps_of (done_in (flown plan [] (begun plan number run) turns)) ≡ plain_run plan.image run.input plan.budget)
    × (flight_entry plan worker (flown plan [] (begun plan number run) turns) ≡ record (learn_entry plan number run (plain_run plan.image run.input plan.budget)) { worker = worker })

-- rows whose neighbours have different versions are the joined form of what they write out
abbrev pub RowsAreJoined : Type 0
RowsAreJoined = (rows : List Adopted) → IsJoined rows → reverse (joined (reverse (written rows))) ≡ rows

-- an honest entry in which no repair fired says what the plain run did, and so does each such entry
-- of a legal history
abbrev pub UnfiredIsPlain : Type 0
UnfiredIsPlain = (plan : PlanOf) (versions : List Table) (e : Entry) → IsHonest plan versions e → e.fired ≡ [] → SaysPlain plan e

abbrev pub LegalIsPlain : Type 0
LegalIsPlain = (plan : PlanOf) (past : List Entry) → IsLegal plan past → UnfiredArePlain plan past

-- an entry is honest under the versions of a whole history; its worker is the plan's, and its adopted
-- versions never fall
pub record IsHonestIn (plan : PlanOf) (past : List Entry) (e : Entry) : Type 0 where
  pub honest : IsHonest plan (ledger plan past).versions e
  pub worker : e.worker < plan.workers
  pub never_falls : NeverFalls e.adopted

-- so is each entry of a legal history
abbrev pub LegalIsHonest : Type 0
LegalIsHonest = (plan : PlanOf) (past : List Entry) → IsLegal plan past → AllByRecursion (IsHonestIn plan past) past

-- the runs of a legal history are the plan's
abbrev pub LegalIsOfPlan : Type 0
LegalIsOfPlan = (plan : PlanOf) (past : List Entry) → IsLegal plan past → AllByRecursion (λ (e : Entry). e.run < length (runs plan)) past

-- it has no more entries than the plan has runs, and fewer where one more may follow
abbrev pub LegalIsFew : Type 0
LegalIsFew = (plan : PlanOf) (past : List Entry) → IsLegal plan past → length past ≤ length (runs plan)

abbrev pub FollowedHasRoom : Type 0
FollowedHasRoom = (plan : PlanOf) (past : List Entry) (e : Entry) → IsLegal plan past → MayFollow plan past e → length past < length (runs plan)

-- the entry of a learn run in order is what the plain run says
abbrev pub LearnEntryIsLearn : Type 0
LearnEntryIsLearn = (plan : PlanOf) (number : ℕ) (run : Run) → IsLearn plan run.input (learn_entry plan number run (plain_run plan.image run.input plan.budget))

-- the next entry in order may follow those of the runs below it, and with all runs they are whole
abbrev pub NextMayFollow : Type 0
NextMayFollow = (plan : PlanOf) (number : ℕ) (past : List Entry) (e : Entry) → IsPlan plan → AreBelow number past → IsNext plan past number e → MayFollow plan past e

abbrev pub BelowIsWhole : Type 0
BelowIsWhole = (plan : PlanOf) (number : ℕ) (past : List Entry) → AreBelow number past → length (runs plan) ≤ number → IsWhole plan past

-- the history of the runs in order is legal and whole
abbrev pub SerialIsLegal : Type 0
SerialIsLegal = (plan : PlanOf) → IsPlan plan → IsLegal plan (serial plan) × IsWhole plan (serial plan)

-- by worker 0 alone there is no other
abbrev pub WorkerZeroIsSerial : Type 0
WorkerZeroIsSerial =
    (plan : PlanOf) (past : List Entry) → IsPlan plan
    → AreByWorkerZero past
    → IsLegal plan past
    → IsWhole plan past
    → past ≡ serial plan

-- so with one worker there is no other
abbrev pub OneWorkerIsSerial : Type 0
OneWorkerIsSerial =
    (plan : PlanOf) (past : List Entry) → IsPlan plan → plan.workers ≡ 1 → IsLegal plan past → IsWhole plan past → past ≡ serial plan
