-- The points where something was seen, in the order of the text.
use Rattle.std.proofs.Common.{◌≡◌, ℕ, zero, suc, ◌+◌, ◌*◌, ◌<◌, Bool, true, false, cond, ◌||◌, eqb, List, [], ◌∷◌, ◌∙◌, refl, sym, ap, fold, arith}
use Rattle.std.proofs.lemmas.Bool.Decides.{nat_tests}
use Rattle.std.specs.List.{AllByRecursion, filter}
use Rattle.cv_observe.proofs.Insertions.{put, before, there, behind}
use Rattle.cv_runs.specs.Learned.{distinct}

-- n points from p on
abbrev pub points_from : ℕ → ℕ → List ℕ
points_from p zero = []
points_from p (suc n) = p ∷ points_from (p + 4) n

filter_above : (k : ℕ) (t : ℕ → Bool) (n p : ℕ) → k < p → AllByRecursion (λ (x : ℕ). k < x) (filter t (points_from p n))
filter_above k t zero p below = tt
filter_above k t (suc n) p below = by_test (t p) (filter_above k t n (p + 4) (omega arith))
  where
    by_test : (b : Bool) → AllByRecursion (λ (x : ℕ). k < x) (filter t (points_from (p + 4) n)) → AllByRecursion (λ (x : ℕ). k < x) (cond b (p ∷ filter t (points_from (p + 4) n)) (filter t (points_from (p + 4) n)))
    by_test true rest = (below, rest)
    by_test false rest = rest

put_front : (k : ℕ) (xs : List ℕ) → AllByRecursion (λ (x : ℕ). k < x) xs → put xs k ≡ k ∷ xs
put_front k [] all = refl
put_front k (x ∷ xs) all = before k x xs all.0

-- a test that k passes too
abbrev pub with_key : ℕ → (ℕ → Bool) → ℕ → Bool
with_key k t p = eqb p k || t p

far_off : (k : ℕ) (t : ℕ → Bool) (n p : ℕ) → k < p → filter (with_key k t) (points_from p n) ≡ filter t (points_from p n)
far_off k t zero p below = refl
far_off k t (suc n) p below =
    let e : eqb p k ≡ false = grind (arith, nat_tests) in
    ap (λ (b : Bool). cond (b || t p) (p ∷ filter (with_key k t) (points_from (p + 4) n)) (filter (with_key k t) (points_from (p + 4) n))) e
    ∙ ap (λ l. cond (t p) (p ∷ l) l) (far_off k t n (p + 4) (omega arith))

-- a point inserted among those that pass a test
module _ (k : ℕ) (t : ℕ → Bool) where
  here : (n p : ℕ) (b : Bool) → p ≡ k → put (cond b (p ∷ filter t (points_from (p + 4) n)) (filter t (points_from (p + 4) n))) k ≡ p ∷ filter t (points_from (p + 4) n)
  here n p true same = there k p (filter t (points_from (p + 4) n)) (sym same)
  here n p false same =
      put_front k (filter t (points_from (p + 4) n)) (filter_above k t n (p + 4) (omega arith)) ∙ ap (λ q. q ∷ filter t (points_from (p + 4) n)) (sym same)

  later : (n p : ℕ) (b : Bool) → p < k → put (filter t (points_from (p + 4) n)) k ≡ filter (with_key k t) (points_from (p + 4) n)
      → put (cond b (p ∷ filter t (points_from (p + 4) n)) (filter t (points_from (p + 4) n))) k ≡ cond b (p ∷ filter (with_key k t) (points_from (p + 4) n)) (filter (with_key k t) (points_from (p + 4) n))
  later n p true low rest = behind k p (filter t (points_from (p + 4) n)) low ∙ ap (λ l. p ∷ l) rest
  later n p false low rest = rest

  pub put_point : (n p j : ℕ) → j < n → k ≡ p + 4 * j → put (filter t (points_from p n)) k ≡ filter (with_key k t) (points_from p n)
  put_point zero p j low is = absurd (omega arith)
  put_point (suc n) p zero low is =
      let same : p ≡ k = omega arith in
      let e : eqb p k ≡ true = grind (arith, nat_tests) in
      here n p (t p) same
      ∙ ap (λ l. p ∷ l) (sym (far_off k t n (p + 4) (omega arith)))
      ∙ sym (ap (λ (b : Bool). cond (b || t p) (p ∷ filter (with_key k t) (points_from (p + 4) n)) (filter (with_key k t) (points_from (p + 4) n))) e)
  put_point (suc n) p (suc j) low is =
      let e : eqb p k ≡ false = grind (arith, nat_tests) in
      later n p (t p) (omega arith) (put_point n (p + 4) j (omega arith) (omega arith))
      ∙ sym (ap (λ (b : Bool). cond (b || t p) (p ∷ filter (with_key k t) (points_from (p + 4) n)) (filter (with_key k t) (points_from (p + 4) n))) e)

-- the test that the keys of a list pass too
abbrev pub grown : (ℕ → Bool) → List ℕ → ℕ → Bool
grown t [] = t
grown t (k ∷ ks) = grown (with_key k t) ks

-- each key is one of the n points from p on
abbrev pub AreAmong : ℕ → ℕ → List ℕ → Type 0
AreAmong p n [] = Unit {0}
AreAmong p n (k ∷ ks) = ((j : ℕ) × (j < n) × (k ≡ p + 4 * j)) × AreAmong p n ks

fold_points : (p n : ℕ) (t : ℕ → Bool) (ks : List ℕ) → AreAmong p n ks → fold put (filter t (points_from p n)) ks ≡ filter (grown t ks) (points_from p n)
fold_points p n t [] among = refl
fold_points p n t (k ∷ ks) among =
    ap (λ l. fold put l ks) (put_point k t n p among.0.0 among.0.1 among.0.2) ∙ fold_points p n (with_key k t) ks among.1

nothing_passes : (xs : List ℕ) → filter (λ p. false) xs ≡ []
nothing_passes [] = refl
nothing_passes (x ∷ xs) = nothing_passes xs

pub points_seen : (p n : ℕ) (ks : List ℕ) → AreAmong p n ks → distinct ks ≡ filter (grown (λ p. false) ks) (points_from p n)
points_seen p n ks among = ap (λ l. fold put l ks) (sym (nothing_passes (points_from p n))) ∙ fold_points p n (λ p. false) ks among
