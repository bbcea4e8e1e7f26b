-- A world stands through each event.
use Rattle.std.proofs.Common.{◌≡◌, ◌≤◌, ℕ, Bool, true, false, List, [], ◌∷◌, Option, Some, None, refl}
use Rattle.std.specs.Prelude.{slice_get, unwrap_or}
use Rattle.std.proofs.lemmas.List.{length-replicate}
use Rattle.cv_base.specs.PlanOf.{PlanOf}
use Rattle.cv_histories.specs.Versions.{ledger}
use Rattle.cv_histories.specs.Flight.{Flight, flight_entry, has_ended, may_enter, may_turn, turned}
use Rattle.cv_histories.specs.World.{Event, Begin, Enter, Turn, Post, World, after_event, entered_with, event_at, instance_of, post_with, start_world, with_flight}
use Rattle.cv_laws.specs.Statements.{EndedMayFollow, EveryWorldIsLegal, WorldsStand, world_after}
use Rattle.cv_laws.specs.WorldStands.{Has, WorldStands}
use Rattle.cv_laws.proofs.Begins.{begin_stands}
use Rattle.cv_laws.proofs.Goings.{enter_stands, turn_stands}
use Rattle.cv_laws.proofs.Posts.{post_follows, post_stands}
use Rattle.cv_laws.proofs.Slots.{none_flies}

-- at the start nothing is posted and nothing is in flight
pub start_stands : (plan : PlanOf) (instances : ℕ) → instances ≤ plan.workers → WorldStands plan (start_world instances)
start_stands plan instances few = record {
  legal = tt;
  few = rw length-replicate few;
  flying = λ i f at. absurd (none_flies instances i f at);
  apart = λ i j f g at at' same. absurd (none_flies instances i f at);
  ahead = λ round k number current low at. record { posted = tt; flying = λ i f there. absurd (none_flies instances i f there) };
}

module _ (plan : PlanOf) (w : World) (stands : WorldStands plan w) (i : ℕ) (f : Flight) (has : Has w i f) where
  -- by whether the event is enabled
  enter_by : (may : Bool) → may_enter plan f ≡ may → WorldStands plan (unwrap_or (elim may [ true ↦ Some (with_flight w i (Some (entered_with (ledger plan w.history) f))) | false ↦ None ]) w)
  enter_by true may = enter_stands plan w i f stands has may
  enter_by false may = stands

  turn_by : (may : Bool) → may_turn plan f ≡ may → WorldStands plan (unwrap_or (elim may [ true ↦ Some (with_flight w i (Some (turned plan f))) | false ↦ None ]) w)
  turn_by true may = turn_stands plan w i f stands has may
  turn_by false may = stands

  post_by : (ended : Bool) → has_ended plan f ≡ ended → WorldStands plan (unwrap_or (elim ended [ true ↦ Some (post_with plan w i (flight_entry plan i f)) | false ↦ None ]) w)
  post_by true ended = post_stands plan w i f stands has ended
  post_by false ended = stands

module _ (plan : PlanOf) (w : World) (stands : WorldStands plan w) where
  -- by what the instance has in flight
  stands_by : (e : Event) (slot : Option (Option Flight)) → slice_get w.flights (instance_of e) ≡ slot → WorldStands plan (unwrap_or (event_at plan w e slot) w)
  stands_by e None is = stands
  stands_by (Begin i) (Some None) is = begin_stands plan w i stands
  stands_by (Begin i) (Some (Some f)) is = stands
  stands_by (Enter i) (Some None) is = stands
  stands_by (Enter i) (Some (Some f)) is = enter_by plan w stands i f is (may_enter plan f) refl
  stands_by (Turn i) (Some None) is = stands
  stands_by (Turn i) (Some (Some f)) is = turn_by plan w stands i f is (may_turn plan f) refl
  stands_by (Post i) (Some None) is = stands
  stands_by (Post i) (Some (Some f)) is = post_by plan w stands i f is (has_ended plan f) refl

-- a world stands through any event
pub event_stands : (plan : PlanOf) (w : World) (e : Event) → WorldStands plan w → WorldStands plan (after_event plan w e)
event_stands plan w e stands = stands_by plan w stands e (slice_get w.flights (instance_of e)) refl

-- and through any list of them
events_stand : (plan : PlanOf) (w : World) (events : List Event) → WorldStands plan w → WorldStands plan (world_after plan w events)
events_stand plan w [] stands = stands
events_stand plan w (e ∷ events) stands = events_stand plan (after_event plan w e) events (event_stands plan w e stands)

-- what stands has a legal history
pub every_world_is_legal : EveryWorldIsLegal
every_world_is_legal plan instances events few =
    (events_stand plan (start_world instances) events (start_stands plan instances few)).legal

-- the same as laws
pub worlds_stand : WorldsStand
worlds_stand plan = (start_stands plan, event_stands plan)

pub ended_may_follow : EndedMayFollow
ended_may_follow plan w i f stands has ended = post_follows plan w i f stands has ended
