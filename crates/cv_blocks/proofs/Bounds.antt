-- The nearest numbers below and above a limit: as folds over any list, and by a search in an ascending one.
use Rattle.std.proofs.Common.{◌≡◌, ℕ, suc, Bool, true, false, ◌&&◌, ◌||◌, ◌-◌, ◌<◌, ◌≤◌, min, max, leb, ltb, eqb, List, [], ◌∷◌, length, get_or, cond, refl, sym, ◌∙◌, ◌⊎◌, inl, inr, arith}
use Rattle.std.specs.List.{filter, fold}
use Rattle.std.specs.List.Sorted.{IsNonDecreasing, IsPartitionPoint, IsPermutation}
use Rattle.std.proofs.lemmas.Bool.{cases_lt, lt-ltb}
use Rattle.std.proofs.lemmas.Bool.Decides.{nat_tests}
use Rattle.std.proofs.lemmas.List.Folds.{list_any_at}
use Rattle.std.proofs.lemmas.List.Sorted.{list_any-IsPermutation}
use Rattle.cv_blocks.specs.Bounds.{holds_number, IsGreatestUpTo, IsLeastAbove}

holds_head : (x : ℕ) (rest : Bool) → (eqb x x || rest) ≡ true
holds_head x rest = grind (arith, nat_tests)

holds_tail : (head rest : Bool) → rest ≡ true → (head || rest) ≡ true
holds_tail true rest is = refl
holds_tail false rest is = is

taken_max : (x m z : ℕ) (rest : Bool) → x ≤ m → z ≤ m → ((eqb x m || rest) || eqb m z) ≡ true → (rest || eqb m (max z x)) ≡ true
taken_max x m z rest le low among = grind (arith, nat_tests)

passed_max : (x m z p : ℕ) (rest : Bool) → p < x → m ≤ p → ((eqb x m || rest) || eqb m z) ≡ true → (rest || eqb m z) ≡ true
passed_max x m z p rest above low among = grind (arith, nat_tests)

taken_min : (x m z : ℕ) (over rest : Bool) → m ≤ x → m ≤ z → ((over && (eqb x m || rest)) || eqb m z) ≡ true → ((over && rest) || eqb m (min z x)) ≡ true
taken_min x m z over rest le low among = grind (arith, nat_tests)

passed_min : (x m z p : ℕ) (rest : Bool) → x ≤ p → ((ltb p m && (eqb x m || rest)) || eqb m z) ≡ true → ((ltb p m && rest) || eqb m z) ≡ true
passed_min x m z p rest low among = grind (arith, nat_tests)

none_left : (m z : ℕ) → eqb m z ≡ true → z ≡ m
none_left m z same = grind (arith, nat_tests)

over_none : (over : Bool) (m z : ℕ) → ((over && false) || eqb m z) ≡ true → z ≡ m
over_none true m z same = none_left m z same
over_none false m z same = none_left m z same

is_above : (x p : ℕ) → leb x p ≡ false → p < x
is_above x p is = grind (arith, nat_tests)

is_below : (x p : ℕ) → leb x p ≡ true → x ≤ p
is_below x p is = grind (arith, nat_tests)

is_more : (x p : ℕ) → ltb p x ≡ true → p < x
is_more x p is = grind (arith, nat_tests)

is_no_more : (x p : ℕ) → ltb p x ≡ false → x ≤ p
is_no_more x p is = grind (arith, nat_tests)

max_step : (b : Bool) (x : ℕ) (xs : List ℕ) (p m z : ℕ) → leb x p ≡ b → ((w : ℕ) → w ≤ m → (holds_number m xs || eqb m w) ≡ true → fold max w (filter (λ y. leb y p) xs) ≡ m) → z ≤ m → ((eqb x m || holds_number m xs) || eqb m z) ≡ true → m ≤ p → (x ≤ p → x ≤ m) → fold max z (cond b (x ∷ filter (λ y. leb y p) xs) (filter (λ y. leb y p) xs)) ≡ m
max_step true x xs p m z is rec le among low below =
    let up : x ≤ m = below (is_below x p is) in
    rec (max z x) (omega arith) (taken_max x m z (holds_number m xs) up le among)
max_step false x xs p m z is rec le among low below =
    rec z le (passed_max x m z p (holds_number m xs) (is_above x p is) low among)

max_of : (xs : List ℕ) (p m z : ℕ) → z ≤ m → (holds_number m xs || eqb m z) ≡ true → m ≤ p → ((x : ℕ) → holds_number x xs ≡ true → x ≤ p → x ≤ m) → fold max z (filter (λ y. leb y p) xs) ≡ m
max_of [] p m z le among low greatest = none_left m z among
max_of (x ∷ xs) p m z le among low greatest =
    max_step (leb x p) x xs p m z refl
    (λ w below here. max_of xs p m w below here low (λ y held. greatest y (holds_tail (eqb x y) (holds_number y xs) held)))
    le among low (greatest x (holds_head x (holds_number x xs)))

min_step : (b : Bool) (x : ℕ) (xs : List ℕ) (p m z : ℕ) → ltb p x ≡ b → ((w : ℕ) → m ≤ w → ((ltb p m && holds_number m xs) || eqb m w) ≡ true → fold min w (filter (λ y. ltb p y) xs) ≡ m) → m ≤ z → ((ltb p m && (eqb x m || holds_number m xs)) || eqb m z) ≡ true → (p < x → m ≤ x) → fold min z (cond b (x ∷ filter (λ y. ltb p y) xs) (filter (λ y. ltb p y) xs)) ≡ m
min_step true x xs p m z is rec le among above =
    let up : m ≤ x = above (is_more x p is) in
    rec (min z x) (omega arith) (taken_min x m z (ltb p m) (holds_number m xs) up le among)
min_step false x xs p m z is rec le among above =
    rec z le (passed_min x m z p (holds_number m xs) (is_no_more x p is) among)

min_of : (xs : List ℕ) (p m z : ℕ) → m ≤ z → ((ltb p m && holds_number m xs) || eqb m z) ≡ true → ((x : ℕ) → holds_number x xs ≡ true → p < x → m ≤ x) → fold min z (filter (λ y. ltb p y) xs) ≡ m
min_of [] p m z le among least = over_none (ltb p m) m z among
min_of (x ∷ xs) p m z le among least =
    min_step (ltb p x) x xs p m z refl
    (λ w below here. min_of xs p m w below here (λ y held. least y (holds_tail (eqb x y) (holds_number y xs) held)))
    le among (least x (holds_head x (holds_number x xs)))

-- a list and its permutation hold the same numbers
same_numbers : (n : ℕ) (xs ys : List ℕ) → IsPermutation xs ys → holds_number n xs ≡ holds_number n ys
same_numbers n xs ys same = list_any-IsPermutation (λ x. eqb x n) xs ys same

pub fold_of_greatest : (xs ys : List ℕ) (p m : ℕ) → IsPermutation xs ys → IsGreatestUpTo ys p m → fold max 0 (filter (λ y. leb y p) xs) ≡ m
fold_of_greatest xs ys p m same is =
    max_of xs p m 0 (omega arith) (rw (same_numbers m xs ys same) is.among) is.below
    (λ x held. is.greatest x (sym (same_numbers x xs ys same) ∙ held))

pub fold_of_least : (xs ys : List ℕ) (p end m : ℕ) → IsPermutation xs ys → IsLeastAbove ys p end m → fold min end (filter (λ y. ltb p y) xs) ≡ m
fold_of_least xs ys p end m same is =
    min_of xs p m end is.below (rw (same_numbers m xs ys same) is.among)
    (λ x held. is.least x (sym (same_numbers x xs ys same) ∙ held))

-- where a number stands
place_step : (b : Bool) (x y : ℕ) (ys : List ℕ) → eqb y x ≡ b → (b || holds_number x ys) ≡ true → (holds_number x ys ≡ true → (k : ℕ) × (k < length ys) × (get_or ys k 0 ≡ x)) → (k : ℕ) × (k < length (y ∷ ys)) × (get_or (y ∷ ys) k 0 ≡ x)
place_step true x y ys is held rest = (0, omega arith, sym (none_left y x is))
place_step false x y ys is held rest =
    let r = rest held in
    (suc r.0, omega (arith, r.1), r.2)

place_of : (x : ℕ) (xs : List ℕ) → holds_number x xs ≡ true → (k : ℕ) × (k < length xs) × (get_or xs k 0 ≡ x)
place_of x [] held = cc
place_of x (y ∷ ys) held = place_step (eqb y x) x y ys refl held (place_of x ys)

stands : (xs : List ℕ) (k : ℕ) → k < length xs → holds_number (get_or xs k 0) xs ≡ true
stands xs k within = list_any_at (λ x. eqb x (get_or xs k 0)) xs k 0 within (grind (arith, nat_tests))

or_left : (head rest : Bool) → head ≡ true → (head || rest) ≡ true
or_left true rest is = refl
or_left false rest is = cc

eqb_same : (n : ℕ) → eqb n n ≡ true
eqb_same n = grind (arith, nat_tests)

both : (a b : Bool) → a ≡ true → b ≡ true → (a && b) ≡ true
both true b is other = other
both false b is other = is

least_among : (p end m : ℕ) (xs : List ℕ) → holds_number m xs ≡ true → p < m → ((ltb p (min end m) && holds_number (min end m) xs) || eqb (min end m) end) ≡ true
least_among p end m xs held above =
    elim (cases_lt m end) [
      | inl less ↦
          let e : min end m ≡ m = omega arith in
          rw e (or_left (ltb p m && holds_number m xs) (eqb m end) (both (ltb p m) (holds_number m xs) (lt-ltb p m above) held))
      | inr more ↦
          let e : min end m ≡ end = omega arith in
          rw e (holds_tail (ltb p end && holds_number end xs) (eqb end end) (eqb_same end))
    ]

-- what a search in an ascending list finds
split_at : (xs : List ℕ) (p n k : ℕ) → IsPartitionPoint (λ y. leb y p ≡ true) (λ y. leb y p ≡ false) xs n → k < length xs → ((k < n) × (get_or xs k 0 ≤ p)) ⊎ ((n ≤ k) × (p < get_or xs k 0))
split_at xs p n k parts within =
    elim (cases_lt k n) [
      | inl before ↦ inl (before, is_below _ _ (parts.0 k 0 (omega arith) before))
      | inr after ↦ inr (after, is_above _ _ (parts.1 k 0 after within))
    ]

pub none_found : (xs : List ℕ) (p : ℕ) → IsPartitionPoint (λ y. leb y p ≡ true) (λ y. leb y p ≡ false) xs 0 → IsGreatestUpTo xs p 0
none_found xs p parts = record {
  among = holds_tail (holds_number 0 xs) true refl;
  below = omega arith;
  greatest = λ x held low.
      let at = place_of x xs held in
      omega (arith, is_above _ _ (parts.1 at.0 0 (omega arith) at.1), at.2);
}

pub last_found : (xs : List ℕ) (p n : ℕ) → IsNonDecreasing xs → 1 ≤ n → n ≤ length xs → IsPartitionPoint (λ y. leb y p ≡ true) (λ y. leb y p ≡ false) xs n → IsGreatestUpTo xs p (get_or xs (n - 1) 0)
last_found xs p n up some bound parts = record {
  among = or_left (holds_number (get_or xs (n - 1) 0) xs) (eqb (get_or xs (n - 1) 0) 0) (stands xs (n - 1) (omega arith));
  below = is_below _ _ (parts.0 (n - 1) 0 (omega arith) (omega arith));
  greatest = λ x held low.
      let at = place_of x xs held in
      elim (split_at xs p n at.0 parts at.1) [
        | inl before ↦ omega (arith, up at.0 (n - 1) 0 (omega (arith, before.0)) (omega arith), at.2)
        | inr after ↦ absurd (omega (arith, after.1, at.2))
      ];
}

pub none_above : (xs : List ℕ) (p end n : ℕ) → length xs ≤ n → IsPartitionPoint (λ y. leb y p ≡ true) (λ y. leb y p ≡ false) xs n → IsLeastAbove xs p end end
none_above xs p end n bound parts = record {
  among = holds_tail (ltb p end && holds_number end xs) (eqb end end) (eqb_same end);
  below = omega arith;
  least = λ x held above.
      let at = place_of x xs held in
      absurd (omega (arith, is_below _ _ (parts.0 at.0 0 (omega arith) (omega (arith, at.1))), at.2));
}

pub first_found : (xs : List ℕ) (p end n : ℕ) → IsNonDecreasing xs → n < length xs → IsPartitionPoint (λ y. leb y p ≡ true) (λ y. leb y p ≡ false) xs n → IsLeastAbove xs p end (min end (get_or xs n 0))
first_found xs p end n up within parts = record {
  among = least_among p end (get_or xs n 0) xs (stands xs n within) (is_above _ _ (parts.1 n 0 (omega arith) within));
  below = omega arith;
  least = λ x held above.
      let at = place_of x xs held in
      elim (split_at xs p n at.0 parts at.1) [
        | inl before ↦ absurd (omega (arith, before.1, at.2))
        | inr after ↦ omega (arith, up n at.0 0 after.0 at.1, at.2)
      ];
}
