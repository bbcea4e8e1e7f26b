-- A list of the nearest invariants, of which only the first ones are kept.
use Rattle.std.proofs.Common.{◌≡◌, ℕ, zero, suc, ◌+◌, ◌<◌, Bool, true, false, not, cond, List, [], ◌∷◌, ◌++◌, ◌∙◌, refl, sym, ap, length, take, get_or, Bor, arith}
use Rattle.std.proofs.lemmas.List.{take-take, take-map, append-nil}
use Rattle.std.proofs.lemmas.List.Elements.{filter_more}
use Rattle.std.proofs.lemmas.List.Sums.{fold-append}
use Rattle.std.specs.List.{filter, insert, position_or_len}
use Rattle.cv_base.specs.declared.invariants.Invariant.{Invariant}
use Rattle.cv_histories.specs.Cases.{comes_before, placed, by_distance}
use Rattle.cv_case.specs.Referred.{referred}

module _ (site : ℕ) where
  -- at its place an invariant stands before the first one that it comes before
  module _ (k r : Bor Invariant) (rs : List (Bor Invariant)) (n : ℕ) (next : referred (insert rs n k) ≡ placed site (referred rs) k.now) where
    at_test : (b : Bool) → referred (insert (r ∷ rs) (cond (not b) (1 + n) 0) k) ≡ elim b [ true ↦ k.now ∷ r.now ∷ referred rs | false ↦ r.now ∷ placed site (referred rs) k.now ]
    at_test true = refl
    at_test false =
        let e : 1 + n ≡ suc n = omega arith in
        rw e (ap (λ l. r.now ∷ l) next)

  inserted : (rs : List (Bor Invariant)) (k : Bor Invariant) → referred (insert rs (position_or_len (λ (r : Bor Invariant). comes_before site k.now r.now) rs) k) ≡ placed site (referred rs) k.now
  inserted [] k = refl
  inserted (r ∷ rs) k = at_test k r rs _ (inserted rs k) (comes_before site k.now r.now)

  pub put_in : (m : ℕ) (old slice more new : List (Bor Invariant)) (k : Bor Invariant) (at : ℕ) → slice ≡ old → at ≡ position_or_len (λ (r : Bor Invariant). comes_before site k.now r.now) slice → more ≡ insert old at k → new ≡ take m more → referred new ≡ take m (placed site (referred old) k.now)
  put_in m old slice more new k at same place insertion cut =
      ap referred cut
      ∙ sym (take-map (λ (r : Bor Invariant). r.now) m more)
      ∙ ap (take m) (ap referred (insertion ∙ ap (λ n. insert old n k) (place ∙ ap (position_or_len (λ (r : Bor Invariant). comes_before site k.now r.now)) same)) ∙ inserted old k)

  -- what is cut off before an invariant is placed would be cut off after it
  cut_behind : (m : ℕ) (x : Invariant) (xs : List Invariant) → take m (x ∷ xs) ≡ take m (x ∷ take m xs)
  cut_behind zero x xs = refl
  cut_behind (suc m) x xs = ap (λ l. x ∷ l) (sym (take-take m (suc m) xs (omega arith)))

  cut_at : (m : ℕ) (k x : Invariant) (xs : List Invariant) (b : Bool) → take m (placed site xs k) ≡ take m (placed site (take m xs) k)
      → take (suc m) (elim b [ true ↦ k ∷ x ∷ xs | false ↦ x ∷ placed site xs k ]) ≡ take (suc m) (elim b [ true ↦ k ∷ x ∷ take m xs | false ↦ x ∷ placed site (take m xs) k ])
  cut_at m k x xs true next = ap (λ l. k ∷ l) (cut_behind m x xs)
  cut_at m k x xs false next = ap (λ l. x ∷ l) next

  take-placed : (m : ℕ) (xs : List Invariant) (k : Invariant) → take m (placed site xs k) ≡ take m (placed site (take m xs) k)
  take-placed zero xs k = refl
  take-placed (suc m) [] k = refl
  take-placed (suc m) (x ∷ xs) k = cut_at m k x xs (comes_before site k x) (take-placed m xs k)

  -- one more invariant of those that pass a test
  module _ (m : ℕ) (test : Invariant → Bool) (ks : List Invariant) (i : ℕ) (k : Invariant) (within : i < length ks) (read : k ≡ get_or ks i k) (kept : List Invariant) (before : kept ≡ take m (by_distance site (filter test (take i ks)))) where
    more : (b : Bool) → test k ≡ b → filter test (take (i + 1) ks) ≡ filter test (take i ks) ++ cond b (k ∷ []) []
    more b is = rw (filter_more test ks i k within, ← read, is) refl

    pub taken_in : test k ≡ true → take m (placed site kept k) ≡ take m (by_distance site (filter test (take (i + 1) ks)))
    taken_in is =
        ap (λ l. take m (placed site l k)) before
        ∙ sym (take-placed m (by_distance site (filter test (take i ks))) k)
        ∙ ap (take m) (sym (ap (by_distance site) (more true is) ∙ fold-append (placed site) [] (filter test (take i ks)) (k ∷ [])))

    pub left_out : test k ≡ false → kept ≡ take m (by_distance site (filter test (take (i + 1) ks)))
    left_out is = rw (more false is) (before ∙ ap (λ l. take m (by_distance site l)) (sym (append-nil (filter test (take i ks)))))
