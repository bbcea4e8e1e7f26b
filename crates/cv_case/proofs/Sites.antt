-- The first site whose procedure has an invariant decides.
use Rattle.std.proofs.Common.{◌≡◌, ◌≢◌, ℕ, ◌+◌, ◌<◌, Bool, true, false, List, [], ◌∷◌, ◌∙◌, refl, sym, ap, fold, length, take, drop, get_or, min, Bor, zero-add, arith}
use Rattle.std.proofs.lemmas.List.{at_drop_more, length-take, length-map}
use Rattle.cv_base.specs.declared.invariants.Invariant.{Invariant}
use Rattle.cv_histories.specs.Cases.{comes_before, placed, by_distance, of_procedure, candidates_at}
use Rattle.cv_histories.specs.declared.TheConstants.{MOST_CANDIDATES}
use Rattle.cv_case.specs.Referred.{referred}

module _ (site : ℕ) where
  length_at : (b : Bool) (k x : Invariant) (xs : List Invariant) → length (placed site xs k) ≡ length xs + 1 → length (elim b as (λ _. List Invariant) [ true ↦ k ∷ x ∷ xs | false ↦ x ∷ placed site xs k ]) ≡ length xs + 2
  length_at true k x xs next = omega arith
  length_at false k x xs next = omega arith

  length-placed : (xs : List Invariant) (k : Invariant) → length (placed site xs k) ≡ length xs + 1
  length-placed [] k = refl
  length-placed (x ∷ xs) k = length_at (comes_before site k x) k x xs (length-placed xs k) ∙ omega arith

  length_fold : (xs ks : List Invariant) → length (fold (placed site) xs ks) ≡ length xs + length ks
  length_fold xs [] = omega arith
  length_fold xs (k ∷ ks) = omega (arith, length_fold (placed site xs k) ks, length-placed xs k)

  -- as many as are there are among the nearest ones, up to a limit
  length_nearest : (m : ℕ) (rs : List (Bor Invariant)) (ks : List Invariant) → referred rs ≡ take m (by_distance site ks) → length rs ≡ min m (length ks)
  length_nearest m rs ks same =
      sym (length-map rs (λ (r : Bor Invariant). r.now))
      ∙ ap length same
      ∙ length-take m (by_distance site ks)
      ∙ ap (min m) (length_fold [] ks ∙ zero-add (length ks))

module _ (starts : List ℕ) (learned : List Invariant) (site : ℕ) (sites : List ℕ) where
  chosen_of : List Invariant → List Invariant
  chosen_of here = elim here [ [] ↦ candidates_at starts learned sites | k ∷ ks ↦ take MOST_CANDIDATES (by_distance site (k ∷ ks)) ]

  none_here : (here : List Invariant) → length here ≡ 0 → chosen_of here ≡ candidates_at starts learned sites
  unfolding chosen_of
  none_here [] h = refl
  none_here (k ∷ ks) h = absurd (omega arith)

  some_here : (here : List Invariant) → 0 < length here → chosen_of here ≡ take MOST_CANDIDATES (by_distance site here)
  unfolding chosen_of
  some_here [] h = absurd (omega arith)
  some_here (k ∷ ks) h = refl

  none_at : (rs : List (Bor Invariant)) → referred rs ≡ take MOST_CANDIDATES (by_distance site (of_procedure starts site learned)) → length rs ≡ 0 → candidates_at starts learned (site ∷ sites) ≡ candidates_at starts learned sites
  unfolding chosen_of
  none_at rs same empty =
      none_here (of_procedure starts site learned) (omega (arith, length_nearest site MOST_CANDIDATES rs (of_procedure starts site learned) same))

  some_at : (rs : List (Bor Invariant)) → referred rs ≡ take MOST_CANDIDATES (by_distance site (of_procedure starts site learned)) → length rs ≢ 0 → candidates_at starts learned (site ∷ sites) ≡ referred rs
  unfolding chosen_of
  some_at rs same some =
      some_here (of_procedure starts site learned) (omega (arith, length_nearest site MOST_CANDIDATES rs (of_procedure starts site learned) same)) ∙ sym same

module _ (starts : List ℕ) (learned : List Invariant) (sites : List ℕ) (i site : ℕ) (within : i < length sites) (read : site ≡ get_or sites i 0) (rs : List (Bor Invariant)) (same : referred rs ≡ take MOST_CANDIDATES (by_distance site (of_procedure starts site learned))) where
  this_and_more : candidates_at starts learned (drop i sites) ≡ candidates_at starts learned (site ∷ drop (i + 1) sites)
  this_and_more =
      at_drop_more (candidates_at starts learned) sites i 0 within ∙ ap (λ s. candidates_at starts learned (s ∷ drop (i + 1) sites)) (sym read)

  pub passed_over : length rs ≡ 0 → candidates_at starts learned (drop i sites) ≡ candidates_at starts learned (drop (i + 1) sites)
  passed_over empty = this_and_more ∙ none_at starts learned site (drop (i + 1) sites) rs same empty

  pub decided : length rs ≢ 0 → candidates_at starts learned (drop i sites) ≡ referred rs
  decided some = this_and_more ∙ some_at starts learned site (drop (i + 1) sites) rs same some
