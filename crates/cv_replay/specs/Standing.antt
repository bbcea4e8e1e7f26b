-- Where a run in flight stands in a script. Conditions of private parts, which no reader has to
-- believe.
use Rattle.std.specs.Prelude.{◌≡◌, ◌<◌, ℕ, List, length, Some}
use Rattle.std.specs.List.{AllByRecursion}
use Rattle.cv_base.specs.PlanOf.{PlanOf}
use Rattle.cv_exec.specs.ArenaOf.{adopted_in, flight_in, turns_in}
use Rattle.cv_exec.specs.LiveRun.{adoptions_of}
use Rattle.cv_histories.specs.Flight.{Flight, entered_next}
use Rattle.cv_replay.specs.Changed.{AreSince}
use Rattle.cv_replay.specs.declared.copies.Copies.{Copies}
use Rattle.cv_replay.specs.declared.stand.Stand.{Stand}
use Rattle.cv_replay.specs.declared.walk.Walk.{Walk}
use Rattle.cv_replay.specs.Left.{IsCursor, IsLeft, left_at}
use Rattle.cv_replay.specs.ReplayOf.{ReplayOf}
use Rattle.cv_replay.specs.Script.{IsScript, ScriptOf, adoptions, flight_at, steps_by_script}

abbrev pub turn_of : Stand → ℕ
turn_of s = turns_in s.flight.going

-- its block entries so far, and those to come
pub record IsBehind (script : ScriptOf) (s : Stand) (versions : List ℕ) : Type 0 where
  pub number : length versions ≡ length (adoptions_of (adopted_in s.flight.going))
  pub left : IsLeft script (adopted_in s.flight.going) (left_at script.entry.adopted s.cursor)
  pub cursor : IsCursor script.entry.adopted s.cursor

-- before a turn of the run
pub record IsAt (script : ScriptOf) (s : Stand) : Type 0 where
  pub below : turn_of s < script.entry.turns
  pub flight : Flight
  pub is : flight_in s.flight.plan s.flight.going ≡ Some flight
  pub at : flight_at s.flight.plan script (turn_of s) ≡ Some flight
  pub behind : IsBehind script s flight.versions

-- the same, where a block entry may still be wanted
pub record IsNear (script : ScriptOf) (s : Stand) : Type 0 where
  pub below : turn_of s < script.entry.turns
  pub flight : Flight
  pub is : flight_in s.flight.plan s.flight.going ≡ Some flight
  pub at : flight_at s.flight.plan script (turn_of s) ≡ Some (entered_next s.flight.plan (adoptions script) flight)
  pub behind : IsBehind script s flight.versions

abbrev pub plan_of : Walk → PlanOf
plan_of w = w.stand.flight.plan

-- a walk, with since when each register has its value
pub record IsWalk (script : ScriptOf) (w : Walk) : Type 0 where
  pub at : IsAt script w.stand
  pub since : AreSince (steps_by_script (plan_of w) script) (turn_of w.stand) w.changes.cells

-- copies of walks through a run, the first before its first turn
pub record AreCopies (plan : PlanOf) (script : ScriptOf) (c : Copies) : Type 0 where
  pub first_plan : plan_of c.first ≡ plan
  pub first_at : IsWalk script c.first
  pub start : turn_of c.first.stand ≡ 0
  pub later : AllByRecursion (λ (w : Walk). (plan_of w ≡ plan) × IsWalk script w) c.later.items

-- a replay as a whole
pub record IsReplay (script : ScriptOf) (now : Walk) (copies : Copies) : Type 0 where
  pub goes_by : IsScript (plan_of now) script
  pub at : IsWalk script now
  pub copies_at : AreCopies (plan_of now) script copies

abbrev pub replay_of : ScriptOf → Walk → ReplayOf
replay_of script now = record { plan = plan_of now; versions = script.versions; entry = script.entry; turn = turn_of now.stand }
