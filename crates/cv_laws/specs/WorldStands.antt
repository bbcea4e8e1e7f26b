-- What stays true of a world through all events (docs/REPAIR.md, "Laws on histories").
use Rattle.std.specs.Prelude.{◌≡◌, ◌≢◌, ◌≤◌, ◌<◌, ℕ, ◌==◌, nat_lt, List, [], ◌∷◌, length, Some, slice_get}
use Rattle.std.specs.List.{AllByRecursion}
use Rattle.cv_base.specs.declared.entries.Entry.{Entry}
use Rattle.cv_base.specs.PlanOf.{PlanOf}
use Rattle.cv_histories.specs.Legal.{IsLegal, floor_of, round_of}
use Rattle.cv_histories.specs.Runs.{run_at}
use Rattle.cv_histories.specs.Versions.{ledger, newest}
use Rattle.cv_histories.specs.Flight.{Flight}
use Rattle.cv_histories.specs.World.{World, current_round, numbers_of}
use Rattle.cv_laws.specs.Flying.{Flies}

-- versions, the newest first, none of which is below the next one
abbrev pub Falls : List ℕ → Type 0
Falls [] = Unit {0}
Falls (v ∷ []) = Unit {0}
Falls (v ∷ w ∷ rest) = (w ≤ v) × Falls (w ∷ rest)

-- a run in flight of instance i, after a history
pub record IsFlying (plan : PlanOf) (history : List Entry) (i : ℕ) (f : Flight) : Type 0 where
  pub of_plan : run_at plan f.number ≡ Some f.run
  pub fresh : AllByRecursion (λ (o : Entry). o.run ≢ f.number) history
  -- it is of the current round, and above the runs of this round that the instance has posted
  pub current : current_round plan history ≡ Some f.run.round
  pub rises : AllByRecursion (λ (o : Entry). round_of plan o ≡ f.run.round → o.worker ≡ i → o.run < f.number) history
  -- its versions never fall, and lie between the floors and the newest one
  pub falls : Falls f.versions
  pub above_worker : AllByRecursion (λ (v : ℕ). floor_of plan (λ (o : Entry). o.worker == i) history ≤ v) f.versions
  pub above_rounds : AllByRecursion (λ (v : ℕ). floor_of plan (λ (o : Entry). nat_lt (round_of plan o) f.run.round) history ≤ v) f.versions
  pub at_most_newest : AllByRecursion (λ (v : ℕ). v ≤ newest plan history) f.versions
  -- and its steps are those that they make
  pub flies : Flies plan (ledger plan history).versions f

-- instance i has this run in flight
abbrev pub Has : World → ℕ → Flight → Type 0
Has w i f = slice_get w.flights i ≡ Some (Some f)

-- a run that is still to be drawn in the current round is above all that were drawn in it
pub record IsAhead (plan : PlanOf) (w : World) (round number : ℕ) : Type 0 where
  pub posted : AllByRecursion (λ (o : Entry). round_of plan o ≡ round → o.run < number) w.history
  pub flying : (i : ℕ) (f : Flight) → Has w i f → f.number < number

pub record WorldStands (plan : PlanOf) (w : World) : Type 0 where
  pub legal : IsLegal plan w.history
  pub few : length w.flights ≤ plan.workers
  pub flying : (i : ℕ) (f : Flight) → Has w i f → IsFlying plan w.history i f
  pub apart : (i j : ℕ) (f g : Flight) → Has w i f → Has w j g → f.number ≡ g.number → i ≡ j
  pub ahead : (round k number : ℕ) → current_round plan w.history ≡ Some round → w.drawn ≤ k → slice_get (numbers_of plan round) k ≡ Some number → IsAhead plan w round number
