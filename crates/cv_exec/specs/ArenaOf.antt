-- What a run in flight and an arena stand for: the plan, the run that is going on, and what an arena
-- has seen (docs/REPAIR.md, "Runs in flight").
use Rattle.std.specs.Prelude.{ℕ, Bool, true, false, not, ◌+◌, List, [], Option, Some, None, option_map, option_and_then}
use Rattle.cv_base.specs.declared.entries.Entry.{Entry}
use Rattle.cv_base.specs.declared.entries.Observation.{Observation}
use Rattle.cv_base.specs.PlanOf.{PlanOf}
use Rattle.cv_exec.specs.LiveRun.{Span, adoptions_of, one_entry_more}
use Rattle.cv_histories.specs.Flight as flight
use Rattle.cv_histories.specs.Flight.{Flight, begun, done_in, flight_entry, flown, may_enter}
use Rattle.cv_histories.specs.Runs.{Run, run_at}
use Rattle.cv_histories.specs.Seen.{is_live}
use Rattle.cv_observe.specs.StandsFor.{SummaryOf}
use Rattle.cv_runs.specs.Learned.{observations}
use Rattle.cv_runs.specs.PatchedRun.{Table, steps_of}

-- a run that was started and not finished: its number, its worker, the turns so far, and the
-- versions that its block entries adopted, none in a learn run
pub record Going : Type 0 where
  pub run : ℕ
  pub worker : ℕ
  pub turns : ℕ
  pub adopted : List Span

-- a run in flight, without what is seen of it
pub record InFlightOf : Type 0 where
  pub plan : PlanOf
  pub going : Option Going

pub record ArenaOf : Type 0 where
  pub plan : PlanOf
  pub going : Option Going
  pub summary : SummaryOf

-- the run in flight
abbrev pub flight_of : PlanOf → Going → Option Flight
flight_of plan g = option_map (λ (run : Run). flown plan (adoptions_of g.adopted) (begun plan g.run run) g.turns) (run_at plan g.run)

abbrev pub flight_in : PlanOf → Option Going → Option Flight
flight_in plan going = option_and_then (flight_of plan) going

-- a run is in flight that passes a test
abbrev pub flies_so : (Flight → Bool) → Option Flight → Bool
flies_so test None = false
flies_so test (Some f) = test f

-- it has ended, by an end or by the budget
abbrev pub is_over : PlanOf → Option Going → Bool
is_over plan going = flies_so (flight.has_ended plan) (flight_in plan going)

abbrev pub has_ended : ArenaOf → Bool
has_ended a = is_over a.plan a.going

-- it stands before a block entry for which nothing was adopted
abbrev pub wants : PlanOf → Option Going → Bool
wants plan going = flies_so (may_enter plan) (flight_in plan going)

abbrev pub wants_entry : ArenaOf → Bool
wants_entry a = wants a.plan a.going

-- it is a learn run
abbrev pub learns : PlanOf → Option Going → Bool
learns plan going = flies_so (λ (f : Flight). not (is_live f.run.mode)) (flight_in plan going)

-- the turns so far
abbrev pub turns_in : Option Going → ℕ
turns_in None = 0
turns_in (Some g) = g.turns

-- the versions that the run has adopted
abbrev pub adopted_in : Option Going → List Span
adopted_in None = []
adopted_in (Some g) = g.adopted

-- what was seen before the turns of a learn run; nothing is seen in a live run
abbrev pub seen_in : Option Flight → List Observation
seen_in None = []
seen_in (Some f) = elim (is_live f.run.mode) [ true ↦ [] | false ↦ observations (steps_of (done_in f)) ]

abbrev pub seen_so_far : PlanOf → Option Going → List Observation
seen_so_far plan going = seen_in (flight_in plan going)

-- the run after one more turn, and after one more block entry
abbrev pub one_more : Option Going → Option Going
one_more going = option_map (λ (g : Going). record g { turns = g.turns + 1 }) going

abbrev pub entered : ℕ → Table → Option Going → Option Going
entered version table going = option_map (λ (g : Going). record g { adopted = one_entry_more version table g.adopted }) going

-- the entry of the run in flight
abbrev pub entry_of_going : PlanOf → Option Going → Option Entry
entry_of_going plan going = option_and_then (λ (g : Going). option_map (flight_entry plan g.worker) (flight_of plan g)) going
