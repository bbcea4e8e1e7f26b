-- What the slots of the instances hold once one of them is set.
use Rattle.std.proofs.Common.{◌≡◌, ℕ, ◌⊎◌, inl, inr, ⊎_elim, zero, suc, ◌-◌, cond, Bool, List, [], ◌∷◌, length, Option, Some, None, refl, sym, ap, ◌∙◌, subst, ne_eqb, arith}
use Rattle.std.specs.Prelude.{◌≢◌, replicate, slice_get}
use Rattle.std.proofs.lemmas.Bool.{cases_eq}
use Rattle.std.proofs.lemmas.Option.{none-some, same_Some}
use Rattle.cv_histories.specs.Flight.{Flight}
use Rattle.cv_histories.specs.World.{set_flight}

abbrev Slots : Type 0
Slots = List (Option Flight)

-- setting a slot behind the first leaves the first
pub set_later : (s : Option Flight) (slots : Slots) (i : ℕ) (o : Option Flight) → set_flight (s ∷ slots) (suc i) o ≡ s ∷ set_flight slots i o
set_later s slots i o =
    let behind : suc i - 1 ≡ i = omega arith in
    ap (λ (b : Bool). cond b (o ∷ slots) (s ∷ set_flight slots (suc i - 1) o)) (ne_eqb (suc i) 0 (λ same. omega arith))
    ∙ ap (λ (j : ℕ). s ∷ set_flight slots j o) behind

-- no slot comes or goes
pub set_length : (slots : Slots) (i : ℕ) (o : Option Flight) → length (set_flight slots i o) ≡ length slots
set_length [] i o = refl
set_length (s ∷ slots) zero o = refl
set_length (s ∷ slots) (suc i) o = ap length (set_later s slots i o) ∙ ap (λ (n : ℕ). suc n) (set_length slots i o)

-- the slot that is set holds what it was set to
set_at : (slots : Slots) (i : ℕ) (o p : Option Flight) → slice_get (set_flight slots i o) i ≡ Some p → o ≡ p
set_at [] i o p at = absurd (none-some p at)
set_at (s ∷ slots) zero o p at = same_Some o p at
set_at (s ∷ slots) (suc i) o p at = set_at slots i o p (rw set_later at at)

-- the other slots stay
set_beside : (slots : Slots) (i j : ℕ) (o : Option Flight) → i ≢ j → slice_get (set_flight slots i o) j ≡ slice_get slots j
set_beside [] i j o other = refl
set_beside (s ∷ slots) zero zero o other = absurd (other refl)
set_beside (s ∷ slots) zero (suc j) o other = refl
set_beside (s ∷ slots) (suc i) zero o other = ap (λ (l : Slots). slice_get l zero) (set_later s slots i o)
set_beside (s ∷ slots) (suc i) (suc j) o other =
    ap (λ (l : Slots). slice_get l (suc j)) (set_later s slots i o)
    ∙ set_beside slots i j o (λ same. other (ap (λ (k : ℕ). suc k) same))

-- run g of slot j is the one that slot i was set to, or was in flight in another slot
abbrev pub IsOneOf : Slots → ℕ → Option Flight → ℕ → Flight → Type 0
IsOneOf slots i o j g = ((i ≡ j) × (o ≡ Some g)) ⊎ ((i ≢ j) × (slice_get slots j ≡ Some (Some g)))

-- each run in flight is one of these
pub set_has : (slots : Slots) (i j : ℕ) (o : Option Flight) (g : Flight) → slice_get (set_flight slots i o) j ≡ Some (Some g) → IsOneOf slots i o j g
set_has slots i j o g at =
    ⊎_elim
    (λ same. inl (same, set_at slots i o (Some g) (subst (λ (k : ℕ). slice_get (set_flight slots i o) k ≡ Some (Some g)) (sym same) at)))
    (λ other. inr (other, sym (set_beside slots i j o other) ∙ at))
    (cases_eq i j)

-- at the start no run is in flight
pub none_flies : (n i : ℕ) (f : Flight) → slice_get (replicate n None) i ≡ Some (Some f) → ⊥
none_flies zero i f at = none-some (Some f) at
none_flies (suc n) zero f at = none-some f (same_Some None (Some f) at)
none_flies (suc n) (suc i) f at = none_flies n i f at
