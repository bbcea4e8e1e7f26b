-- The instances of a world and its flights, where one instance changes.
use Rattle.std.proofs.Common.{◌≡◌, ◌≤◌, ◌<◌, ◌-◌, ℕ, zero, suc, cond, Bool, ◌⊎◌, inl, inr, ⊎_elim, List, [], ◌∷◌, length, map, Option, Some, None, refl, sym, ap, ◌∙◌, ne_eqb, arith}
use Rattle.std.specs.Prelude.{slice_get, slice_index_or, slice_set}
use Rattle.std.proofs.lemmas.List.{get_or_read, length-map}
use Rattle.std.proofs.lemmas.Option.{none-some, same_Some, slice_get_past}
use Rattle.cv_base.specs.PlanOf.{PlanOf}
use Rattle.cv_histories.specs.Flight.{Flight}
use Rattle.cv_histories.specs.World.{set_flight}
use Rattle.cv_exec.specs.ArenaOf.{flight_in}
use Rattle.cv_world.specs.InstanceOf.{InstanceOf}

-- what the instances have in flight
abbrev pub flights_of : PlanOf → List InstanceOf → List (Option Flight)
flights_of plan xs = map (flight_in plan) (map (λ (x : InstanceOf). x.going) xs)

-- instance i has its run in flight
pub flight_at : (plan : PlanOf) (xs : List InstanceOf) (i : ℕ) (x : InstanceOf) → slice_get xs i ≡ Some x → slice_get (flights_of plan xs) i ≡ Some (flight_in plan x.going)
flight_at plan [] i x at = absurd (none-some x at)
flight_at plan (y ∷ xs) zero x at = ap (λ (z : InstanceOf). Some (flight_in plan z.going)) (same_Some y x at)
flight_at plan (y ∷ xs) (suc i) x at = flight_at plan xs i x at

-- past the last instance is no flight
pub none_past : (plan : PlanOf) (xs : List InstanceOf) (i : ℕ) → length xs ≤ i → slice_get (flights_of plan xs) i ≡ None
none_past plan xs i past = slice_get_past (flights_of plan xs) i (simp length-map past)

-- a flight set behind the first leaves the first
set_later : (f : Option Flight) (fs : List (Option Flight)) (i : ℕ) (g : Option Flight) → set_flight (f ∷ fs) (suc i) g ≡ f ∷ set_flight fs i g
set_later f fs i g =
    let behind : suc i - 1 ≡ i = omega arith in
    ap (λ (b : Bool). cond b (g ∷ fs) (f ∷ set_flight fs (suc i - 1) g)) (ne_eqb (suc i) 0 (λ same. omega arith))
    ∙ ap (λ (j : ℕ). f ∷ set_flight fs j g) behind

-- with another instance at place i
pub set_flights : (plan : PlanOf) (xs : List InstanceOf) (i : ℕ) (x : InstanceOf) → flights_of plan (slice_set xs i x) ≡ set_flight (flights_of plan xs) i (flight_in plan x.going)
set_flights plan [] i x = refl
set_flights plan (y ∷ xs) zero x = refl
set_flights plan (y ∷ xs) (suc i) x =
    ap (λ (fs : List (Option Flight)). flight_in plan y.going ∷ fs) (set_flights plan xs i x)
    ∙ sym (set_later (flight_in plan y.going) (flights_of plan xs) i (flight_in plan x.going))

-- then each instance is that one, or was there before
pub set_one : (xs : List InstanceOf) (i j : ℕ) (x y : InstanceOf) → slice_get (slice_set xs i x) j ≡ Some y → ((i ≡ j) × (x ≡ y)) ⊎ (slice_get xs j ≡ Some y)
set_one [] i j x y at = inr at
set_one (z ∷ xs) zero zero x y at = inl (refl, same_Some x y at)
set_one (z ∷ xs) zero (suc j) x y at = inr at
set_one (z ∷ xs) (suc i) zero x y at = inr at
set_one (z ∷ xs) (suc i) (suc j) x y at = ⊎_elim (λ is. inl (ap (λ (k : ℕ). suc k) is.0, is.1)) (λ was. inr was) (set_one xs i j x y at)

-- two instances that are read at one place are the same
pub same_at : (xs : List InstanceOf) (n i : ℕ) (x y : InstanceOf) → n ≡ length xs → i < n → x ≡ slice_index_or xs i x → y ≡ slice_index_or xs i y → x ≡ y
same_at xs n i x y count within is_x is_y = get_or_read xs i x (omega arith) is_x y ∙ sym is_y
