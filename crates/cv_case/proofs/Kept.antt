-- What holds of each learned invariant holds of each candidate.
use Rattle.std.proofs.Common.{◌≡◌, ℕ, zero, suc, Bool, true, false, cond, ◌&&◌, List, [], ◌∷◌, refl, fold, take}
use Rattle.std.specs.List.{filter, list_all}
use Rattle.std.specs.Prelude.{◌==◌}
use Rattle.cv_base.specs.declared.invariants.Invariant.{Invariant}
use Rattle.cv_histories.specs.Cases.{comes_before, placed, by_distance, of_procedure, candidates_at}
use Rattle.cv_histories.specs.declared.TheConstants.{MOST_CANDIDATES}
use Rattle.cv_runs.specs.Invariants.{point_of}
use Rattle.cv_runs.specs.Text.{proc_in}

both : (a b : Bool) → a ≡ true → b ≡ true → (a && b) ≡ true
both true true p q = refl
both true false p q = q
both false b p q = p

first_of_both : (a b : Bool) → (a && b) ≡ true → a ≡ true
first_of_both true b p = refl
first_of_both false b p = p

rest_of_both : (a b : Bool) → (a && b) ≡ true → b ≡ true
rest_of_both true b p = p
rest_of_both false true p = refl
rest_of_both false false p = p

module _ (p : Invariant → Bool) where
  list_all-cons : (x : Invariant) (xs : List Invariant) → p x ≡ true → list_all p xs ≡ true → list_all p (x ∷ xs) ≡ true
  list_all-cons x xs = both (p x) (list_all p xs)

  list_all-take : (n : ℕ) (xs : List Invariant) → list_all p xs ≡ true → list_all p (take n xs) ≡ true
  list_all-take zero xs h = refl
  list_all-take (suc n) [] h = refl
  list_all-take (suc n) (x ∷ xs) h =
      list_all-cons x (take n xs) (first_of_both (p x) (list_all p xs) h) (list_all-take n xs (rest_of_both (p x) (list_all p xs) h))

  passing_or_not : (b : Bool) (x : Invariant) (xs : List Invariant) → p x ≡ true → list_all p xs ≡ true → list_all p (cond b (x ∷ xs) xs) ≡ true
  passing_or_not true x xs h all = list_all-cons x xs h all
  passing_or_not false x xs h all = all

  list_all-filter : (test : Invariant → Bool) (xs : List Invariant) → list_all p xs ≡ true → list_all p (filter test xs) ≡ true
  list_all-filter test [] h = refl
  list_all-filter test (x ∷ xs) h =
      passing_or_not (test x) x (filter test xs) (first_of_both (p x) (list_all p xs) h) (list_all-filter test xs (rest_of_both (p x) (list_all p xs) h))

  module _ (site : ℕ) where
    before_or_behind : (b : Bool) (k x : Invariant) (xs more : List Invariant) → p k ≡ true → p x ≡ true → list_all p xs ≡ true → list_all p more ≡ true → list_all p (elim b as (λ _. List Invariant) [ true ↦ k ∷ x ∷ xs | false ↦ x ∷ more ]) ≡ true
    before_or_behind true k x xs more hk hx all next = list_all-cons k (x ∷ xs) hk (list_all-cons x xs hx all)
    before_or_behind false k x xs more hk hx all next = list_all-cons x more hx next

    list_all-placed : (xs : List Invariant) (k : Invariant) → p k ≡ true → list_all p xs ≡ true → list_all p (placed site xs k) ≡ true
    list_all-placed [] k hk h = list_all-cons k [] hk refl
    list_all-placed (x ∷ xs) k hk h =
        before_or_behind (comes_before site k x) k x xs (placed site xs k) hk (first_of_both (p x) (list_all p xs) h) (rest_of_both (p x) (list_all p xs) h) (list_all-placed xs k hk (rest_of_both (p x) (list_all p xs) h))

    list_all_fold : (xs ks : List Invariant) → list_all p xs ≡ true → list_all p ks ≡ true → list_all p (fold (placed site) xs ks) ≡ true
    list_all_fold xs [] h all = h
    list_all_fold xs (k ∷ ks) h all =
        list_all_fold (placed site xs k) ks (list_all-placed xs k (first_of_both (p k) (list_all p ks) all) h) (rest_of_both (p k) (list_all p ks) all)

  module _ (starts : List ℕ) (learned : List Invariant) (each : list_all p learned ≡ true) where
    at_site : (site : ℕ) (others here : List Invariant) → list_all p others ≡ true → list_all p here ≡ true → list_all p (elim here as (λ _. List Invariant) [ [] ↦ others | k ∷ ks ↦ take MOST_CANDIDATES (by_distance site (k ∷ ks)) ]) ≡ true
    at_site site others [] rest all = rest
    at_site site others (k ∷ ks) rest all =
        list_all-take MOST_CANDIDATES (by_distance site (k ∷ ks)) (list_all_fold site [] (k ∷ ks) refl all)

    pub list_all_candidates : (sites : List ℕ) → list_all p (candidates_at starts learned sites) ≡ true
    list_all_candidates [] = refl
    list_all_candidates (site ∷ sites) =
        at_site site (candidates_at starts learned sites) (of_procedure starts site learned) (list_all_candidates sites) (list_all-filter (λ (k : Invariant). proc_in starts (point_of k) == proc_in starts site) learned each)
