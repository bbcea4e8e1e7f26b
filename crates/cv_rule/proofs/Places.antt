-- Items of a list by their places, once one was set or put behind the others.
use Rattle.std.proofs.Common.{◌≡◌, ◌≢◌, ◌⊎◌, ℕ, zero, suc, List, [], ◌∷◌, ◌++◌, inl, inr, ⊎_elim, refl, sym, ap, ◌∙◌, subst, arith}
use Rattle.std.specs.Prelude.{slice_set}
use lib.ListN.{get_elem?}
use mathlib.Core.Option.{some, some-injective, some-ne-none}

module _ {A : Type 0} where
  pub at_set : (l : List A) (i j : ℕ) (a b : A) → get_elem? (slice_set l i a) j ≡ some b → ((j ≡ i) × (a ≡ b)) ⊎ ((j ≢ i) × (get_elem? l j ≡ some b))
  at_set [] i j a b e = absurd (some-ne-none b (sym e))
  at_set (x ∷ xs) zero zero a b e = inl (refl, some-injective a b e)
  at_set (x ∷ xs) zero (suc j) a b e = inr ((λ h. omega arith), e)
  at_set (x ∷ xs) (suc i) zero a b e = inr ((λ h. omega arith), e)
  at_set (x ∷ xs) (suc i) (suc j) a b e = ⊎_elim (λ t. inl (ap suc t.0, t.1)) (λ t. let n = t.0 in inr ((λ h. n (omega arith)), t.1)) (at_set xs i j a b e)

  pub set_here : (l : List A) (i : ℕ) (a b : A) → get_elem? l i ≡ some a → get_elem? (slice_set l i b) i ≡ some b
  set_here [] i a b e = absurd (some-ne-none a (sym e))
  set_here (x ∷ xs) zero a b e = refl
  set_here (x ∷ xs) (suc i) a b e = set_here xs i a b e

  pub set_else : (l : List A) (i j : ℕ) (a : A) → j ≢ i → get_elem? (slice_set l i a) j ≡ get_elem? l j
  set_else [] i j a n = refl
  set_else (x ∷ xs) zero zero a n = absurd (n refl)
  set_else (x ∷ xs) zero (suc j) a n = refl
  set_else (x ∷ xs) (suc i) zero a n = refl
  set_else (x ∷ xs) (suc i) (suc j) a n = set_else xs i j a (λ e. n (ap suc e))

  pub at_longer : (l m : List A) (i : ℕ) (a : A) → get_elem? l i ≡ some a → get_elem? (l ++ m) i ≡ some a
  at_longer [] m i a e = absurd (some-ne-none a (sym e))
  at_longer (x ∷ xs) m zero a e = e
  at_longer (x ∷ xs) m (suc i) a e = at_longer xs m i a e

  pub at_push : (l : List A) (a b : A) (j : ℕ) → get_elem? (l ++ a ∷ []) j ≡ some b → (get_elem? l j ≡ some b) ⊎ (a ≡ b)
  at_push [] a b zero e = inr (some-injective a b e)
  at_push [] a b (suc j) e = absurd (some-ne-none b (sym e))
  at_push (x ∷ xs) a b zero e = inl e
  at_push (x ∷ xs) a b (suc j) e = at_push xs a b j e

  pub same_place : (l : List A) (i : ℕ) (a b : A) → get_elem? l i ≡ some a → get_elem? l i ≡ some b → a ≡ b
  same_place l i a b e f = some-injective a b (sym e ∙ f)

  pub set_again : (l : List A) (i : ℕ) (a : A) → get_elem? l i ≡ some a → slice_set l i a ≡ l
  set_again [] i a e = refl
  set_again (x ∷ xs) zero a e = λ k. sym (some-injective x a e) k ∷ xs
  set_again (x ∷ xs) (suc i) a e = λ k. x ∷ set_again xs i a e k

  pub set_twice : (l : List A) (i : ℕ) (a b : A) → slice_set (slice_set l i a) i b ≡ slice_set l i b
  set_twice [] i a b = refl
  set_twice (x ∷ xs) zero a b = refl
  set_twice (x ∷ xs) (suc i) a b = ap (λ l. x ∷ l) (set_twice xs i a b)

  -- ---- what holds of each, once one was changed

  pub each_set : (P : ℕ → A → Type 0) (l : List A) (i : ℕ) (b : A) → P i b → ((j : ℕ) (u : A) → j ≢ i → get_elem? l j ≡ some u → P j u)
      → (j : ℕ) (u : A) → get_elem? (slice_set l i b) j ≡ some u → P j u
  each_set P l i b here others j u at =
      ⊎_elim
      (λ t. subst (λ (k : ℕ). P k u) (sym t.0) (subst (λ (x : A). P i x) t.1 here))
      (λ t. others j u t.0 t.1)
      (at_set l i j b u at)

  -- one was changed, and one put behind
  pub each_split : (P : ℕ → A → Type 0) (l : List A) (i : ℕ) (b c : A) → P i b → ((j : ℕ) → P j c) → ((j : ℕ) (u : A) → j ≢ i → get_elem? l j ≡ some u → P j u)
      → (j : ℕ) (u : A) → get_elem? (slice_set l i b ++ c ∷ []) j ≡ some u → P j u
  each_split P l i b c here new others j u at =
      ⊎_elim
      (λ t. each_set P l i b here others j u t)
      (λ t. subst (λ (x : A). P j x) t (new j))
      (at_push (slice_set l i b) c u j at)

  -- two were changed
  pub each_join : (P : ℕ → A → Type 0) (l : List A) (i o : ℕ) (b c : A) → o ≢ i → P i b → P o c → ((j : ℕ) (u : A) → j ≢ i → j ≢ o → get_elem? l j ≡ some u → P j u)
      → (j : ℕ) (u : A) → get_elem? (slice_set (slice_set l i b) o c) j ≡ some u → P j u
  each_join P l i o b c apart here there others =
      each_set P (slice_set l i b) o c there (λ j u not_o at.
      ⊎_elim
      (λ t. subst (λ (k : ℕ). P k u) (sym t.0) (subst (λ (x : A). P i x) t.1 here))
      (λ t. others j u t.0 not_o t.1)
      (at_set l i j b u at))

  -- of a list with one item
  pub only_one : (P : ℕ → A → Type 0) (a : A) → P 0 a → (j : ℕ) (u : A) → get_elem? (a ∷ []) j ≡ some u → P j u
  only_one P a here zero u at = subst (λ (x : A). P 0 x) (some-injective a u at) here
  only_one P a here (suc j) u at = absurd (some-ne-none u (sym at))
