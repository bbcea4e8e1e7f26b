-- A world stands where one of its runs in flight goes on: it enters, or makes a turn.
use Rattle.std.proofs.Common.{◌≡◌, ◌≤◌, ℕ, Bool, true, false, List, [], ◌∷◌, Option, Some, refl, sym, ap, ◌∙◌, subst, ⊎_elim, le_refl, arith}
use Rattle.std.specs.List.{AllByRecursion}
use Rattle.std.proofs.lemmas.Option.{same_Some}
use Rattle.cv_base.specs.PlanOf.{PlanOf}
use Rattle.cv_base.specs.declared.entries.Entry.{Entry}
use Rattle.cv_histories.specs.Versions.{ledger, newest, newest_of}
use Rattle.cv_histories.specs.Flight.{Flight, may_enter, may_turn, turned, turned_by}
use Rattle.cv_histories.specs.World.{World, entered_with, with_flight}
use Rattle.cv_laws.specs.Flying.{Flies}
use Rattle.cv_laws.specs.WorldStands.{Falls, Has, IsAhead, IsFlying, WorldStands}
use Rattle.cv_runs.specs.BlockEntries.{since_next}
use Rattle.cv_runs.specs.PatchedRun.{PatchedStep}
use Rattle.cv_runs.specs.State.{State, Outcome, Next, Ended}
use Rattle.cv_laws.proofs.Flights.{entered_flies, turned_flies}
use Rattle.cv_laws.proofs.Slots.{set_has, set_length}
use Rattle.cv_laws.proofs.VersionTables.{floor_below, newest_there, some_version}

-- ---- one run in flight changes, and keeps its number

module _ (plan : PlanOf) (w : World) (i : ℕ) (f next : Flight) (stands : WorldStands plan w) (has : Has w i f) (same : next.number ≡ f.number) where
  abbrev after : World
  after = with_flight w i (Some next)

  -- each run in flight was in flight, with its number
  abbrev Was : ℕ → Flight → Type 0
  Was j g = (h : Flight) × Has w j h × (g.number ≡ h.number)

  was : (j : ℕ) (g : Flight) → Has after j g → Was j g
  was j g at =
      ⊎_elim
      (λ new. (f, subst (λ (k : ℕ). Has w k f) new.0 has, ap (λ (h : Flight). h.number) (sym (same_Some next g new.1)) ∙ same))
      (λ old. (g, old.1, refl))
      (set_has w.flights i j (Some next) g at)

  -- each run in flight is as it should be
  flying_after : IsFlying plan w.history i next → (j : ℕ) (g : Flight) → Has after j g → IsFlying plan w.history j g
  flying_after flies j g at =
      ⊎_elim
      (λ new. subst (IsFlying plan w.history j) (same_Some next g new.1) (subst (λ (k : ℕ). IsFlying plan w.history k next) new.0 flies))
      (λ old. stands.flying j g old.1)
      (set_has w.flights i j (Some next) g at)

  -- their numbers are apart
  apart_after : (j k : ℕ) (g h : Flight) → Has after j g → Has after k h → g.number ≡ h.number → j ≡ k
  apart_after j k g h at_j at_k e =
      let a : Was j g = was j g at_j in
      let b : Was k h = was k h at_k in
      stands.apart j k a.0 b.0 a.1 b.1 (sym a.2 ∙ e ∙ b.2)

  -- and below those that are still to be drawn
  ahead_after : (round number : ℕ) → IsAhead plan w round number → IsAhead plan after round number
  ahead_after round number old = record {
    posted = old.posted;
    flying = λ j g at. let a : Was j g = was j g at in omega (arith, old.flying j a.0 a.1, a.2);
  }

  -- a world stands with a run that goes on as it should
  pub goes_on : IsFlying plan w.history i next → WorldStands plan after
  goes_on flies = record {
    legal = stands.legal;
    few = rw set_length stands.few;
    flying = flying_after flies;
    apart = apart_after;
    ahead = λ round k number current low at. ahead_after round number (stands.ahead round k number current low at);
  }

-- ---- it enters

-- versions with the newest one in front fall no more than before
falls_from_newest : (v : ℕ) (vs : List ℕ) → AllByRecursion (λ (u : ℕ). u ≤ v) vs → Falls vs → Falls (v ∷ vs)
falls_from_newest v [] below falls = tt
falls_from_newest v (u ∷ us) below falls = (below.0, falls)

-- a run that enters adopts the newest version
entered_flying : (plan : PlanOf) (history : List Entry) (i : ℕ) (f : Flight) → may_enter plan f ≡ true → IsFlying plan history i f → IsFlying plan history i (entered_with (ledger plan history) f)
entered_flying plan history i f may old = record {
  of_plan = old.of_plan;
  fresh = old.fresh;
  current = old.current;
  rises = old.rises;
  falls = falls_from_newest (newest plan history) f.versions old.at_most_newest old.falls;
  above_worker = (floor_below plan _ history, old.above_worker);
  above_rounds = (floor_below plan _ history, old.above_rounds);
  at_most_newest = (le_refl (newest plan history), old.at_most_newest);
  flies = entered_flies plan (ledger plan history).versions (newest plan history) (newest_of (ledger plan history).versions) f (newest_there (ledger plan history).versions (some_version plan history)) may old.flies;
}

-- a world stands through an entering
pub enter_stands : (plan : PlanOf) (w : World) (i : ℕ) (f : Flight) → WorldStands plan w → Has w i f → may_enter plan f ≡ true → WorldStands plan (with_flight w i (Some (entered_with (ledger plan w.history) f)))
enter_stands plan w i f stands has may =
    goes_on plan w i f (entered_with (ledger plan w.history) f) stands has refl (entered_flying plan w.history i f may (stands.flying i f has))

-- ---- it makes a turn

-- a turn keeps the run's number
turned_number : (f : Flight) (step : PatchedStep) (o : Outcome) → (turned_by f step o).number ≡ f.number
turned_number f step (Next next transfer) = refl
turned_number f step (Ended end) = refl

module _ (plan : PlanOf) (history : List Entry) (i : ℕ) (f : Flight) (state : State) (steps : List PatchedStep) (since : Option ℕ) (transferred over : Bool) where
  abbrev moved : Flight
  moved = record f { state = state; steps = steps; since = since; transferred = transferred; entered = false; over = over }

  -- what stands of a run's number, run and versions stays with another state and other steps
  moved_flying : IsFlying plan history i f → Flies plan (ledger plan history).versions moved → IsFlying plan history i moved
  moved_flying old flies = record {
    of_plan = old.of_plan;
    fresh = old.fresh;
    current = old.current;
    rises = old.rises;
    falls = old.falls;
    above_worker = old.above_worker;
    above_rounds = old.above_rounds;
    at_most_newest = old.at_most_newest;
    flies = flies;
  }

-- a run after a turn, by its outcome
turned_flying : (plan : PlanOf) (history : List Entry) (i : ℕ) (f : Flight) (step : PatchedStep) (o : Outcome) → IsFlying plan history i f → Flies plan (ledger plan history).versions (turned_by f step o) → IsFlying plan history i (turned_by f step o)
turned_flying plan history i f step (Next next transfer) old flies =
    moved_flying plan history i f next (step ∷ f.steps) (since_next step.enters f.since) transfer f.over old flies
turned_flying plan history i f step (Ended end) old flies =
    moved_flying plan history i f f.state (step ∷ f.steps) f.since f.transferred true old flies

-- a world stands through a turn
pub turn_stands : (plan : PlanOf) (w : World) (i : ℕ) (f : Flight) → WorldStands plan w → Has w i f → may_turn plan f ≡ true → WorldStands plan (with_flight w i (Some (turned plan f)))
turn_stands plan w i f stands has may =
    let old : IsFlying plan w.history i f = stands.flying i f has in
    goes_on plan w i f (turned plan f) stands has (turned_number f _ _) (turned_flying plan w.history i f _ _ old (turned_flies plan (ledger plan w.history).versions f may old.flies))
