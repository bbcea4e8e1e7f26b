-- The world: instances that draw, enter, turn and post in any order (docs/REPAIR.md, "The world").
use Rattle.std.specs.Prelude.{ℕ, Bool, true, false, not, ◌==◌, ◌+◌, ◌-◌, if◌then◌else◌, List, [], ◌∷◌, length, find, replicate, Option, Some, None, option_map, slice_get, unwrap_or}
use Rattle.std.specs.List.{list_any, list_all, range_with_len}
use Rattle.cv_base.specs.declared.entries.Entry.{Entry}
use Rattle.cv_base.specs.PlanOf.{PlanOf}
use Rattle.cv_histories.specs.Flight.{Flight, begun, entered, flight_entry, has_ended, may_enter, may_turn, turned}
use Rattle.cv_histories.specs.Runs.{Run, run_at, runs}
use Rattle.cv_histories.specs.Versions.{Ledger, ledger, newest_of}

pub record World : Type 0 where
  pub history : List Entry  -- the newest first
  pub drawn : ℕ  -- runs drawn in the current round
  pub flights : List (Option Flight)

pub data Event : Type 0 where
  Begin : ℕ → Event
  Enter : ℕ → Event
  Turn : ℕ → Event
  Post : ℕ → Event

abbrev pub start_world : ℕ → World
start_world instances = record { history = []; drawn = 0; flights = replicate instances None }

-- the numbers of the runs of a round
abbrev pub numbers_from : ℕ → List Run → ℕ → List ℕ
numbers_from n [] round = []
numbers_from n (r ∷ rs) round = if r.round == round then n ∷ numbers_from (n + 1) rs round else numbers_from (n + 1) rs round

abbrev pub numbers_of : PlanOf → ℕ → List ℕ
numbers_of plan round = numbers_from 0 (runs plan) round

abbrev pub is_posted : List Entry → ℕ → Bool
is_posted history number = list_any (λ (e : Entry). e.run == number) history

-- the first round with a run that is not posted
abbrev pub current_round : PlanOf → List Entry → Option ℕ
current_round plan history =
    find (λ round. not (list_all (is_posted history) (numbers_of plan round))) (range_with_len 0 (length plan.rounds))

abbrev pub next_draw : PlanOf → World → Option ℕ → Option ℕ
next_draw plan w None = None
next_draw plan w (Some round) = slice_get (numbers_of plan round) w.drawn

-- a block entry adopts the newest version
abbrev pub entered_with : Ledger → Flight → Flight
entered_with l f = entered (length l.versions - 1) (newest_of l.versions) f

-- the list with a new value at place i, which exists
abbrev pub set_flight : List (Option Flight) → ℕ → Option Flight → List (Option Flight)
set_flight [] i f = []
set_flight (x ∷ xs) i f = if i == 0 then f ∷ xs else x ∷ set_flight xs (i - 1) f

abbrev pub with_flight : World → ℕ → Option Flight → World
with_flight w i f = record w { flights = set_flight w.flights i f }

-- after a post the draws begin anew where the round is over
abbrev pub drawn_after : PlanOf → List Entry → List Entry → ℕ → ℕ
drawn_after plan before now drawn =
    if same_round (current_round plan before) (current_round plan now) then drawn else 0
  where
    same_round : Option ℕ → Option ℕ → Bool
    same_round (Some a) (Some b) = a == b
    same_round _ _ = false

abbrev pub begin_with : PlanOf → World → ℕ → Option ℕ → Option World
begin_with plan w i None = None
begin_with plan w i (Some number) =
    option_map (λ run. record (with_flight w i (Some (begun plan number run))) { drawn = w.drawn + 1 }) (run_at plan number)

abbrev pub post_with : PlanOf → World → ℕ → Entry → World
post_with plan w i e =
    record (with_flight w i None) { history = e ∷ w.history; drawn = drawn_after plan w.history (e ∷ w.history) w.drawn }

-- the world after an event, None where the event is not enabled; `flight` is what the instance has
abbrev pub event_at : PlanOf → World → Event → Option (Option Flight) → Option World
event_at plan w event None = None
event_at plan w (Begin i) (Some None) = begin_with plan w i (next_draw plan w (current_round plan w.history))
event_at plan w (Begin i) (Some (Some f)) = None
event_at plan w event (Some None) = None
event_at plan w (Enter i) (Some (Some f)) =
    elim (may_enter plan f) [ true ↦ Some (with_flight w i (Some (entered_with (ledger plan w.history) f))) | false ↦ None ]
event_at plan w (Turn i) (Some (Some f)) =
    elim (may_turn plan f) [ true ↦ Some (with_flight w i (Some (turned plan f))) | false ↦ None ]
event_at plan w (Post i) (Some (Some f)) =
    elim (has_ended plan f) [ true ↦ Some (post_with plan w i (flight_entry plan i f)) | false ↦ None ]

abbrev pub instance_of : Event → ℕ
instance_of (Begin i) = i
instance_of (Enter i) = i
instance_of (Turn i) = i
instance_of (Post i) = i

abbrev pub event : PlanOf → World → Event → Option World
event plan w e = event_at plan w e (slice_get w.flights (instance_of e))

-- an event that is not enabled changes nothing
abbrev pub after_event : PlanOf → World → Event → World
after_event plan w e = unwrap_or (event plan w e) w
