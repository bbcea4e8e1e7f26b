-- Where a machine, and what a live run keeps beside it, stand in the run in flight. A condition of
-- private parts, which no reader has to believe.
use Rattle.std.specs.Prelude.{◌≡◌, ◌<◌, ◌≤◌, ℕ, Bool, true, false, not, ◌&&◌, ◌+◌, if◌then◌else◌, List, [], ◌++◌, length, reverse, Option, Some, None, option_map, is_some, IsSome}
use Rattle.cv_base.specs.declared.ends.End.{End}
use Rattle.cv_base.specs.declared.plan.Mode.{Mode}
use Rattle.cv_base.specs.declared.plan.Mode.TheVariants.{Learn, Live}
use Rattle.cv_base.specs.Picture.{is_point}
use Rattle.cv_base.specs.PlanOf.{PlanOf}
use Rattle.cv_base.specs.Points.{Range}
use Rattle.cv_exec.specs.declared.flying.Flying.{Flying}
use Rattle.cv_exec.specs.declared.flying.Flying.TheVariants.{Nothing, Learning, Living}
use Rattle.cv_exec.specs.declared.flying.Started.{Started}
use Rattle.cv_exec.specs.declared.patched.Patched.{Patched}
use Rattle.cv_exec.specs.ArenaOf.{Going}
use Rattle.cv_exec.specs.Keeping.{IsCopy, IsFresh, IsKept, IsReady, IsUpTo, last_span, last_table, range_of, wants_by}
use Rattle.cv_exec.specs.LiveRun.{Span, adoptions_of, rows_of}
use Rattle.cv_exec.specs.RunEnds.{end_sites}
use Rattle.cv_histories.specs.Flight.{Flight, begun, done_in, flown, has_ended}
use Rattle.cv_histories.specs.Rows.{sites_in, written}
use Rattle.cv_histories.specs.Runs.{Run, run_at}
use Rattle.cv_machine.specs.Held.{Held, state_of}
use Rattle.cv_runs.specs.BlockEntries.{is_entry, since_next}
use Rattle.cv_runs.specs.PatchedRun.{steps_of}
use Rattle.cv_runs.specs.PlainRun.{Step, end_of, state_left}
use Rattle.cv_runs.specs.State.{start_state}

abbrev pub going_with : Started → List Span → Going
going_with s spans = record { run = s.run; worker = s.worker; turns = s.turns; adopted = spans }

abbrev pub going_of : Flying → Option Going
going_of Nothing = None
going_of (Learning s) = Some (going_with s [])
going_of (Living s p) = Some (going_with s p.spans.items)

-- what it shows of itself
abbrev pub adopted_by : Flying → List Span
adopted_by Nothing = []
adopted_by (Learning s) = []
adopted_by (Living s p) = p.spans.items

abbrev pub started_turns : Flying → ℕ
started_turns Nothing = 0
started_turns (Learning s) = s.turns
started_turns (Living s p) = s.turns

abbrev pub with_end : Started → Option (Started × End)
with_end s = option_map (λ (e : End). (s, e)) s.end

abbrev pub ending_of : Flying → Option (Started × End)
ending_of Nothing = None
ending_of (Learning s) = with_end s
ending_of (Living s p) = with_end s

abbrev pub learns_by : Flying → Bool
learns_by Nothing = false
learns_by (Learning s) = true
learns_by (Living s p) = false

abbrev pub has_run_ended : Flying → Bool
has_run_ended Nothing = false
has_run_ended (Learning s) = is_some s.end
has_run_ended (Living s p) = is_some s.end

abbrev pub wants_in : Flying → Bool
wants_in Nothing = false
wants_in (Learning s) = false
wants_in (Living s p) = not (is_some s.end) && wants_by p

-- a run of this mode before its first turn
abbrev pub first_of : ℕ → ℕ → Started
first_of run worker = record { run = run; worker = worker; turns = 0; end = None }

abbrev pub BeginsLive : Range → ℕ → ℕ → Flying → Type 0
BeginsLive text run worker Nothing = ⊥
BeginsLive text run worker (Learning s) = ⊥
BeginsLive text run worker (Living s p) = (s ≡ first_of run worker) × IsFresh text p

abbrev pub BeginsIn : Range → Option Mode → ℕ → ℕ → Flying → Type 0
BeginsIn text (Some Live) run worker flying = BeginsLive text run worker flying
BeginsIn text _ run worker flying = flying ≡ Learning (first_of run worker)

-- one is a copy of the other
abbrev pub IsSame : Flying → Flying → Type 0
IsSame Nothing Nothing = Unit {0}
IsSame (Learning s) (Learning t) = t ≡ s
IsSame (Living s p) (Living t q) = (t ≡ s) × IsCopy p q
IsSame _ _ = ⊥

-- what the steps so far leave
pub record Leaves (plan : PlanOf) (f : Flight) : Type 0 where
  pub within : length f.steps ≤ plan.budget
  pub state : state_left (start_state plan.image f.run.input) (steps_of (done_in f)) ≡ f.state
  pub ends : f.over ≡ false → (rest : List Step) → end_of (steps_of (done_in f) ++ rest) ≡ end_of rest

-- it goes on in the machine's state
pub record GoesOn (plan : PlanOf) (machine : Held) (f : Flight) : Type 0 where
  pub on : has_ended plan f ≡ false
  pub state : state_of machine ≡ f.state

-- it has ended so
pub record EndedSo (plan : PlanOf) (machine : Held) (f : Flight) (end : End) : Type 0 where
  pub over : has_ended plan f ≡ true
  pub ends : end_of (steps_of (done_in f)) ≡ end
  pub output : (state_left (start_state plan.image f.run.input) (steps_of (done_in f))).output ≡ machine.output
  pub sites : sites_in (steps_of (done_in f)) ≡ end_sites end machine.core

abbrev pub StandsBy : PlanOf → Held → Flight → Option End → Type 0
StandsBy plan machine f None = GoesOn plan machine f
StandsBy plan machine f (Some end) = EndedSo plan machine f end

-- where its blocks begin, and that its patches have rows with room
pub record Marks (f : Flight) (p : Patched) : Type 0 where
  pub enters : p.enters ≡ is_entry f.since f.transferred
  pub rule : p.rule ≡ since_next p.enters f.since
  pub entered : p.entered ≡ f.entered
  pub few : length f.versions ≤ length f.steps + (if f.entered then 1 else 0)
  pub room : IsUpTo (length f.steps) p
  pub ready : p.prepared ≡ true → IsReady p
  pub prepared : wants_by p ≡ false → p.prepared ≡ true
  pub some : wants_by p ≡ false → IsSome (last_span p.spans.items)

abbrev pub MarksBy : Flight → Patched → Option End → Type 0
MarksBy f p None = Marks f p
MarksBy f p (Some end) = Unit {0}

-- what a live run keeps
pub record Keeps (plan : PlanOf) (f : Flight) (p : Patched) (end : Option End) : Type 0 where
  pub lives : f.run.mode ≡ Live
  pub text : p.text ≡ range_of plan.image
  pub kept : IsKept (done_in f) p
  pub versions : written (rows_of p.spans.items) ≡ reverse f.versions
  pub table : last_table p.spans.items ≡ f.table
  pub marks : MarksBy f p end

-- a learn run keeps nothing, and a live run what it adopts and notes
abbrev pub KeepsBy : PlanOf → Flight → Option End → Option Patched → Type 0
KeepsBy plan f end None = f.run.mode ≡ Learn
KeepsBy plan f end (Some p) = Keeps plan f p end

-- a started run of the plan, which is in flight so
pub record IsStarted (plan : PlanOf) (machine : Held) (patched : Option Patched) (spans : List Span) (started : Started) : Type 0 where
  pub run : Run
  pub flight : Flight
  pub of_plan : run_at plan started.run ≡ Some run
  pub worker : started.worker < plan.workers
  pub is : flown plan (adoptions_of spans) (begun plan started.run run) started.turns ≡ flight
  pub number_is : flight.number ≡ started.run
  pub run_is : flight.run ≡ run
  pub used : length (adoptions_of spans) ≡ length flight.versions
  pub turns : started.turns ≡ length flight.steps
  pub leaves : Leaves plan flight
  pub stands : StandsBy plan machine flight started.end
  pub keeps : KeepsBy plan flight started.end patched

abbrev pub Stands : PlanOf → Held → Flying → Type 0
Stands plan machine Nothing = Unit {0}
Stands plan machine (Learning s) = IsStarted plan machine None [] s
Stands plan machine (Living s p) = IsStarted plan machine (Some p) p.spans.items s

pub record IsInFlight (plan : PlanOf) (machine : Held) (range : Range) (flying : Flying) : Type 0 where
  pub image : machine.image ≡ plan.image
  pub point : is_point machine.image machine.core.pc ≡ true
  pub ranged : range ≡ range_of plan.image
  pub run : Stands plan machine flying
