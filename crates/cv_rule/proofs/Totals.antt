-- Totals over a list, once an item was changed.
use Rattle.std.proofs.Common.{◌≡◌, ◌≢◌, ◌≤◌, ◌+◌, ℕ, zero, suc, List, [], ◌∷◌, ◌++◌, refl, sym, ap, arith}
use Rattle.std.specs.Prelude.{slice_set}
use lib.ListN.{get_elem?}
use mathlib.Core.Option.{some, some-injective, some-ne-none}
use Rattle.cv_rule.specs.Counts.{total}

module _ {A : Type 0} (f : A → ℕ) where
  pub total_append : (l m : List A) → total f (l ++ m) ≡ total f l + total f m
  total_append [] m = omega arith
  total_append (x ∷ xs) m = omega (arith, total_append xs m)

  pub total_set : (l : List A) (i : ℕ) (a b : A) → get_elem? l i ≡ some a → total f (slice_set l i b) + f a ≡ total f l + f b
  total_set [] i a b e = absurd (some-ne-none a (sym e))
  total_set (x ∷ xs) zero a b e = omega (arith, ap f (some-injective x a e))
  total_set (x ∷ xs) (suc i) a b e = omega (arith, total_set xs i a b e)

  -- one changed, one put behind
  pub total_split : (l : List A) (i : ℕ) (a b c : A) → get_elem? l i ≡ some a → total f (slice_set l i b ++ c ∷ []) + f a ≡ total f l + f b + f c
  total_split l i a b c e =
      let behind = total_append (slice_set l i b) (c ∷ []) in
      let one = total_set l i a b e in
      omega arith

  -- two changed
  pub total_join : (l : List A) (i o : ℕ) (a w b c : A) → get_elem? l i ≡ some a → get_elem? (slice_set l i b) o ≡ some w
      → total f (slice_set (slice_set l i b) o c) + f a + f w ≡ total f l + f b + f c
  total_join l i o a w b c e at =
      let first = total_set l i a b e in
      let second = total_set (slice_set l i b) o w c at in
      omega arith

  pub at_most_total : (l : List A) (i : ℕ) (a : A) → get_elem? l i ≡ some a → f a ≤ total f l
  at_most_total [] i a e = absurd (some-ne-none a (sym e))
  at_most_total (x ∷ xs) zero a e = omega (arith, ap f (some-injective x a e))
  at_most_total (x ∷ xs) (suc i) a e = omega (arith, at_most_total xs i a e)

  pub two_places : (l : List A) (i j : ℕ) (a b : A) → get_elem? l i ≡ some a → get_elem? l j ≡ some b → j ≢ i → f a + f b ≤ total f l
  two_places [] i j a b e h n = absurd (some-ne-none a (sym e))
  two_places (x ∷ xs) zero zero a b e h n = absurd (n refl)
  two_places (x ∷ xs) zero (suc j) a b e h n = omega (arith, ap f (some-injective x a e), at_most_total xs j b h)
  two_places (x ∷ xs) (suc i) zero a b e h n = omega (arith, ap f (some-injective x b h), at_most_total xs i a e)
  two_places (x ∷ xs) (suc i) (suc j) a b e h n = omega (arith, two_places xs i j a b e h (λ same. n (ap suc same)))

  pub total_none : (l : List A) → ((i : ℕ) (a : A) → get_elem? l i ≡ some a → f a ≡ 0) → total f l ≡ 0
  total_none [] none = refl
  total_none (x ∷ xs) none = omega (arith, none zero x refl, total_none xs (λ i a e. none (suc i) a e))

module _ {A : Type 0} where
  pub total_le : (f g : A → ℕ) (l : List A) → ((i : ℕ) (a : A) → get_elem? l i ≡ some a → f a ≤ g a) → total f l ≤ total g l
  total_le f g [] le = omega arith
  total_le f g (x ∷ xs) le = omega (arith, le zero x refl, total_le f g xs (λ i a e. le (suc i) a e))

  pub total_sum_le : (f g h : A → ℕ) (l : List A) → ((i : ℕ) (a : A) → get_elem? l i ≡ some a → f a + g a ≤ h a) → total f l + total g l ≤ total h l
  total_sum_le f g h [] le = omega arith
  total_sum_le f g h (x ∷ xs) le = omega (arith, le zero x refl, total_sum_le f g h xs (λ i a e. le (suc i) a e))

  -- what one item has more shows in the totals
  pub total_gap : (f g : A → ℕ) (l : List A) (i : ℕ) (a : A) → ((j : ℕ) (b : A) → get_elem? l j ≡ some b → f b ≤ g b) → get_elem? l i ≡ some a → total f l + g a ≤ total g l + f a
  total_gap f g [] i a le e = absurd (some-ne-none a (sym e))
  total_gap f g (x ∷ xs) zero a le e = omega (arith, ap f (some-injective x a e), ap g (some-injective x a e), total_le f g xs (λ j b at. le (suc j) b at))
  total_gap f g (x ∷ xs) (suc i) a le e = omega (arith, le zero x refl, total_gap f g xs i a (λ j b at. le (suc j) b at) e)
