-- Rows that rise by case and index, whatever else they hold.
use Rattle.std.proofs.Common.{◌≡◌, ◌≢◌, ℕ, suc, zero, ◌<◌, ◌≤◌, Bool, true, false, ◌&&◌, ◌||◌, cond, eqb, List, [], ◌∷◌, length, get_or, set, take, drop, map, Result, Ok, Err, Ordering, Less, Equal, Greater, refl, sym, ap, subst, ◌∙◌, inl, inr, arith}
use Rattle.std.specs.List.{All, AllByRecursion, AllPairs, insert, list_all, list_any, prefix_len}
use Rattle.std.specs.List.Sorted.{IsNonDecreasingBy, IsPartitionPoint, IsSearchInRange, IsBinarySearchResult}
use Rattle.std.specs.Ordering.{nat_cmp, ordering_index, ordering_then}
use Rattle.std.specs.Result.{IsOk, MatchResult}
use Rattle.std.proofs.lemmas.Bool.{and_from, and_parts, both_ways, cases_eq, cases_lt, cases_order, cond-false, cond_both, eq-eqb, false_from_ne_true, or_right, or_left}
use Rattle.std.proofs.lemmas.Bool.Decides.{nat_tests}
use Rattle.std.proofs.lemmas.List.{get_or-map, length-map}
use Rattle.std.proofs.lemmas.List.Elements.{All-append, All-cons, All-drop, All-take}
use Rattle.std.proofs.lemmas.List.Folds.{list_any_at, list_any_none, map_fixed}
use Rattle.std.proofs.lemmas.List.Kept.{AllPairs-cons}
use Rattle.std.proofs.lemmas.List.Sums.{prefix_len-le-length, prefix_len_is, prefix_len_passes, prefix_len_stops}
use Rattle.cv_patch.specs.Counts.{is_before}
use Rattle.cv_patch.specs.Prepared.{StandsAt, BelongsAt}

-- tests of a list's elements
pub and_swap : (a b c : Bool) → (a && (b && c)) ≡ (b && (a && c))
and_swap true b c = refl
and_swap false true c = refl
and_swap false false c = refl

pub or_swap : (a b c : Bool) → (a || (b || c)) ≡ (b || (a || c))
or_swap true true c = refl
or_swap true false c = refl
or_swap false b c = refl

module _ {X : Type 0} where
  list_all-insert : (p : X → Bool) (xs : List X) (at : ℕ) (row : X) → list_all p (insert xs at row) ≡ (p row && list_all p xs)
  list_all-insert p xs zero row = refl
  list_all-insert p [] (suc at) row = refl
  list_all-insert p (x ∷ xs) (suc at) row =
      ap (λ b. p x && b) (list_all-insert p xs at row) ∙ and_swap (p x) (p row) (list_all p xs)

  list_any-insert : (p : X → Bool) (xs : List X) (at : ℕ) (row : X) → list_any p (insert xs at row) ≡ (p row || list_any p xs)
  list_any-insert p xs zero row = refl
  list_any-insert p [] (suc at) row = refl
  list_any-insert p (x ∷ xs) (suc at) row =
      ap (λ b. p x || b) (list_any-insert p xs at row) ∙ or_swap (p x) (p row) (list_any p xs)

  each-insert : (P : X → Type 0) (xs : List X) (at : ℕ) (row : X) → AllByRecursion P xs → P row → AllByRecursion P (insert xs at row)
  each-insert P xs zero row each one = (one, each)
  each-insert P [] (suc at) row each one = (one, each)
  each-insert P (x ∷ xs) (suc at) row each one = (each.0, each-insert P xs at row each.1 one)

  All-insert : (P : X → Type 0) (xs : List X) (at : ℕ) (row : X) → All P xs → P row → All P (insert xs at row)
  All-insert P xs at row all one =
      All-append P (take at xs) (row ∷ drop at xs) (All-take P at xs all) (All-cons P row (drop at xs) one (All-drop P at xs all))

  pub not_any : (p : X → Bool) (xs : List X) → list_any p xs ≡ false → (k : ℕ) (d : X) → k < length xs → p (get_or xs k d) ≡ false
  not_any p xs none k d within = false_from_ne_true _ (λ passes. both_ways _ none (list_any_at p xs k d within passes))

  -- a test that implies another
  pub list_all-weaker : (p q : X → Bool) → ((x : X) → p x ≡ true → q x ≡ true) → (xs : List X) → list_all p xs ≡ true → list_all q xs ≡ true
  list_all-weaker p q gives [] all = refl
  list_all-weaker p q gives (x ∷ xs) all =
      let parts = and_parts (p x) (list_all p xs) all in
      and_from _ _ (gives x parts.0) (list_all-weaker p q gives xs parts.1)

-- the order of cases and indices
pub before_differs : (a b c d : ℕ) → is_before a b c d ≡ true → (eqb a c && eqb b d) ≡ false
before_differs a b c d h = grind (arith, nat_tests)

pub behind_differs : (a b c d : ℕ) → is_before c d a b ≡ true → (eqb a c && eqb b d) ≡ false
behind_differs a b c d h = grind (arith, nat_tests)

pub same_case : (a b c d : ℕ) → (eqb a c && eqb b d) ≡ true → a ≡ c
same_case a b c d h = grind (arith, nat_tests)

pub same_index : (a b c d : ℕ) → (eqb a c && eqb b d) ≡ true → b ≡ d
same_index a b c d h = grind (arith, nat_tests)

pub before_trans : (a b c d e f : ℕ) → is_before a b c d ≡ true → is_before c d e f ≡ true → is_before a b e f ≡ true
before_trans a b c d e f h k = grind (arith, nat_tests)

pub before_else : (a b c d : ℕ) → is_before a b c d ≡ false → (eqb a c && eqb b d) ≡ false → is_before c d a b ≡ true
before_else a b c d h k = grind (arith, nat_tests)

higher_not_lower : (a b c d : ℕ) → is_before c d a b ≡ true → is_before a b c d ≡ false
higher_not_lower a b c d h = grind (arith, nat_tests)

abbrev pair_cmp : ℕ → ℕ → ℕ → ℕ → Ordering
pair_cmp a b c d = ordering_then (nat_cmp a c) (nat_cmp b d)

equal_same : (a b c d : ℕ) → pair_cmp a b c d ≡ Equal → (eqb a c && eqb b d) ≡ true
equal_same a b c d h = grind (arith, nat_tests)

less_before : (a b c d : ℕ) → pair_cmp a b c d ≡ Less → is_before a b c d ≡ true
less_before a b c d h = grind (arith, nat_tests)

greater_behind : (a b c d : ℕ) → pair_cmp a b c d ≡ Greater → is_before c d a b ≡ true
greater_behind a b c d h = grind (arith, nat_tests)

order_rises : (a b c d e f : ℕ) → is_before a b c d ≡ true → ordering_index (pair_cmp a b e f) ≤ ordering_index (pair_cmp c d e f)
order_rises a b c d e f h = grind (arith, nat_tests)

module _ {X : Type 0} (case index : X → ℕ) where
  abbrev pub Rises : List X → Type 0
  Rises = AllPairs (λ (a : X) (b : X). is_before (case a) (index a) (case b) (index b) ≡ true)

  abbrev pub is_named : ℕ → ℕ → X → Bool
  is_named c i x = eqb (case x) c && eqb (index x) i

  abbrev pub lower : ℕ → ℕ → X → Bool
  lower c i x = is_before (case x) (index x) c i

  abbrev pub higher : ℕ → ℕ → X → Bool
  higher c i x = is_before c i (case x) (index x)

  never_falls : (c i : ℕ) (xs : List X) → Rises xs → IsNonDecreasingBy (λ x. ordering_index (pair_cmp (case x) (index x) c i)) xs
  never_falls c i xs rises =
      λ j k d le lt. elim (cases_eq j k) [
        | inl same ↦ omega (arith, ap (λ n. ordering_index (pair_cmp (case (get_or xs n d)) (index (get_or xs n d)) c i)) same)
        | inr other ↦ order_rises _ _ _ _ c i (rises j k d (omega arith) lt)
      ]

  -- what a search among them answers
  pub place_found : (c i : ℕ) (xs : List X) (r : Result ℕ ℕ) → Rises xs → IsSearchInRange r (length xs) → IsBinarySearchResult (λ x. pair_cmp (case x) (index x) c i) xs r → MatchResult r (StandsAt (is_named c i) xs) (BelongsAt (lower c i) (higher c i) xs)
  place_found c i xs (Ok at) rises bound answer = record { within = bound; passes = λ d. equal_same _ _ c i (answer d) }
  place_found c i xs (Err at) rises bound answer =
      let point : IsPartitionPoint (λ x. pair_cmp (case x) (index x) c i ≡ Less) (λ x. pair_cmp (case x) (index x) c i ≡ Greater) xs at =
      answer (never_falls c i xs rises) in
      record {
        within = bound;
        before = λ k d low high. less_before _ _ c i (point.0 k d low high);
        behind = λ k d low high. greater_behind _ _ c i (point.1 k d low high);
      }

  -- no row but one passes the test of a case and an index
  named_alone : (c i : ℕ) (xs : List X) (at : ℕ) → Rises xs → StandsAt (is_named c i) xs at → (k : ℕ) (d : X) → k < length xs → k ≢ at → is_named c i (get_or xs k d) ≡ false
  named_alone c i xs at rises stands k d within other =
      let is_case : case (get_or xs at d) ≡ c = same_case _ _ c i (stands.passes d) in
      let is_index : index (get_or xs at d) ≡ i = same_index _ _ c i (stands.passes d) in
      elim (cases_order k at) [
        | inl same ↦ absurd (other same)
        | inr (inl before) ↦ before_differs _ _ c i (rw (is_case, is_index) at (rises k at d before stands.within))
        | inr (inr behind) ↦ behind_differs _ _ c i (rw (is_case, is_index) at (rises at k d behind within))
      ]

  none_named : (c i : ℕ) (xs : List X) (at : ℕ) → BelongsAt (lower c i) (higher c i) xs at → list_any (is_named c i) xs ≡ false
  none_named c i xs at belongs =
      list_any_none (is_named c i) xs (λ k d within. elim (cases_lt k at) [
        | inl below ↦ before_differs _ _ c i (belongs.before k d (omega arith) below)
        | inr above ↦ behind_differs _ _ c i (belongs.behind k d above within)
      ])

  belongs_there : (c i : ℕ) (xs : List X) (at : ℕ) (d : X) → BelongsAt (lower c i) (higher c i) xs at → prefix_len (lower c i) xs ≡ at
  belongs_there c i xs at d belongs =
      prefix_len_is (lower c i) xs at d belongs.within
      (λ k below. belongs.before k d (omega arith) below)
      (λ within. higher_not_lower _ _ c i (belongs.behind at d (omega arith) within))

  -- where no row has the case and the index, one belongs behind the lower ones
  where_belongs : (c i : ℕ) (xs : List X) → Rises xs → list_any (is_named c i) xs ≡ false → BelongsAt (lower c i) (higher c i) xs (prefix_len (lower c i) xs)
  where_belongs c i xs rises none =
      let at : ℕ = prefix_len (lower c i) xs in
      let behind_first : (d : X) → at < length xs → higher c i (get_or xs at d) ≡ true =
      λ d within. before_else _ _ c i (prefix_len_stops (lower c i) xs d within) (not_any (is_named c i) xs none at d within) in
      record {
        within = prefix_len-le-length (lower c i) xs;
        before = λ k d low high. prefix_len_passes (lower c i) xs k d high;
        behind = λ k d low high. elim (cases_eq at k) [
          | inl same ↦ subst (λ n. higher c i (get_or xs n d) ≡ true) same (behind_first d (omega arith))
          | inr other ↦ before_trans c i _ _ _ _ (behind_first d (omega arith)) (rises at k d (omega arith) high)
        ];
      }

  rises-insert : (row : X) (xs : List X) (at : ℕ) → Rises xs → BelongsAt (lower (case row) (index row)) (higher (case row) (index row)) xs at → Rises (insert xs at row)
  rises-insert row xs zero rises belongs =
      AllPairs-cons (λ a b. is_before (case a) (index a) (case b) (index b) ≡ true) row xs (λ k d within. belongs.behind k d (omega arith) within) rises
  rises-insert row [] (suc at) rises belongs = absurd (omega (arith, belongs.within))
  rises-insert row (x ∷ xs) (suc at) rises belongs =
      let rest : Rises xs = λ j k d lt within. rises (suc j) (suc k) d (omega arith) (omega arith) in
      let later : BelongsAt (lower (case row) (index row)) (higher (case row) (index row)) xs at =
      record {
        within = omega (arith, belongs.within);
        before = λ k d low high. belongs.before (suc k) d (omega arith) (omega arith);
        behind = λ k d low high. belongs.behind (suc k) d (omega arith) (omega arith);
      } in
      let above : All (λ b. is_before (case x) (index x) (case b) (index b) ≡ true) xs = λ k d within. rises 0 (suc k) d (omega arith) (omega arith) in
      let one : is_before (case x) (index x) (case row) (index row) ≡ true = belongs.before 0 x (omega arith) (omega arith) in
      AllPairs-cons (λ a b. is_before (case a) (index a) (case b) (index b) ≡ true) x (insert xs at row)
      (All-insert (λ b. is_before (case x) (index x) (case b) (index b) ≡ true) xs at row above one)
      (rises-insert row xs at rest later)

  -- the rows with one more where none has its case and index
  abbrev pub added : X → List X → List X
  added row xs =
      cond (list_any (is_named (case row) (index row)) xs) xs (insert xs (prefix_len (lower (case row) (index row)) xs) row)

  pub added_there : (row : X) (xs : List X) (at : ℕ) → StandsAt (is_named (case row) (index row)) xs at → xs ≡ added row xs
  added_there row xs at stands =
      rw (list_any_at (is_named (case row) (index row)) xs at row stands.within (stands.passes row)) refl

  pub added_new : (row : X) (xs : List X) (at : ℕ) → BelongsAt (lower (case row) (index row)) (higher (case row) (index row)) xs at → insert xs at row ≡ added row xs
  added_new row xs at belongs =
      rw (none_named (case row) (index row) xs at belongs, belongs_there (case row) (index row) xs at row belongs) refl

  pub added_rises : (row : X) (xs : List X) → Rises xs → Rises (added row xs)
  added_rises row xs rises =
      cond_both (list_any (is_named (case row) (index row)) xs) xs (insert xs (prefix_len (lower (case row) (index row)) xs) row) Rises
      (λ has. rises)
      (λ none. rises-insert row xs _ rises (where_belongs (case row) (index row) xs rises none))

  pub added_all : (p : X → Bool) (row : X) (xs : List X) → list_all p xs ≡ true → p row ≡ true → list_all p (added row xs) ≡ true
  added_all p row xs all one =
      cond_both (list_any (is_named (case row) (index row)) xs) xs (insert xs (prefix_len (lower (case row) (index row)) xs) row) (λ ys. list_all p ys ≡ true)
      (λ has. all)
      (λ none. list_all-insert p xs _ row ∙ and_from _ _ one all)

  pub added_any : (p : X → Bool) (row : X) (xs : List X) → list_any p xs ≡ true → list_any p (added row xs) ≡ true
  added_any p row xs any =
      cond_both (list_any (is_named (case row) (index row)) xs) xs (insert xs (prefix_len (lower (case row) (index row)) xs) row) (λ ys. list_any p ys ≡ true)
      (λ has. any)
      (λ none. list_any-insert p xs _ row ∙ or_right _ _ any)

  named_itself : (row : X) → is_named (case row) (index row) row ≡ true
  named_itself row = and_from _ _ (eq-eqb (case row) (case row) refl) (eq-eqb (index row) (index row) refl)

  pub added_named : (row : X) (xs : List X) → list_any (is_named (case row) (index row)) (added row xs) ≡ true
  added_named row xs =
      cond_both (list_any (is_named (case row) (index row)) xs) xs (insert xs (prefix_len (lower (case row) (index row)) xs) row) (λ ys. list_any (is_named (case row) (index row)) ys ≡ true)
      (λ has. has)
      (λ none. list_any-insert (is_named (case row) (index row)) xs _ row ∙ or_left _ (list_any (is_named (case row) (index row)) xs) (named_itself row))

  pub added_each : (P : X → Type 0) (row : X) (xs : List X) → AllByRecursion P xs → (list_any (is_named (case row) (index row)) xs ≡ false → P row) → AllByRecursion P (added row xs)
  added_each P row xs each one =
      cond_both (list_any (is_named (case row) (index row)) xs) xs (insert xs (prefix_len (lower (case row) (index row)) xs) row) (AllByRecursion P)
      (λ has. each)
      (λ none. each-insert P xs _ row each (one none))

  -- one row changed in what is not its case and index
  abbrev pub changed : ℕ → ℕ → (X → X) → List X → List X
  changed c i f xs = map (λ x. cond (is_named c i x) (f x) x) xs

  map_alone : (p : X → Bool) (f : X → X) (xs : List X) (at : ℕ) (d : X) → at < length xs → p (get_or xs at d) ≡ true → ((k : ℕ) (e : X) → k < length xs → k ≢ at → p (get_or xs k e) ≡ false) → map (λ x. cond (p x) (f x) x) xs ≡ set xs at (f (get_or xs at d))
  map_alone p f [] at d within passes alone = absurd (omega arith)
  map_alone p f (x ∷ xs) zero d within passes alone =
      let rest : map (λ y. cond (p y) (f y) y) xs ≡ xs =
      map_fixed (λ y. cond (p y) (f y) y) xs (λ k e h. cond-false _ _ _ (alone (suc k) e (omega arith) (omega arith))) in
      rw (passes, rest) refl
  map_alone p f (x ∷ xs) (suc at) d within passes alone =
      let first : p x ≡ false = alone 0 x (omega arith) (omega arith) in
      let rest : map (λ y. cond (p y) (f y) y) xs ≡ set xs at (f (get_or xs at d)) =
      map_alone p f xs at d (omega arith) passes (λ k e h other. alone (suc k) e (omega arith) (omega arith)) in
      rw (first, rest) refl

  pub changed_there : (c i : ℕ) (f : X → X) (xs : List X) (at : ℕ) (d : X) → Rises xs → StandsAt (is_named c i) xs at → set xs at (f (get_or xs at d)) ≡ changed c i f xs
  changed_there c i f xs at d rises stands =
      sym (map_alone (is_named c i) f xs at d stands.within (stands.passes d) (named_alone c i xs at rises stands))

  -- a change that keeps cases and indices
  pub rises-map : (f : X → X) → ((x : X) → case (f x) ≡ case x) → ((x : X) → index (f x) ≡ index x) → (xs : List X) → Rises xs → Rises (map f xs)
  rises-map f cases indices xs rises =
      λ j k d lt within.
      let long : k < length xs = omega (arith, length-map xs f) in
      rw (get_or-map f xs j d d (omega arith), get_or-map f xs k d d long, cases (get_or xs j d), indices (get_or xs j d), cases (get_or xs k d), indices (get_or xs k d))
      (rises j k d lt long)

  pub rises-changed : (c i : ℕ) (f : X → X) → ((x : X) → case (f x) ≡ case x) → ((x : X) → index (f x) ≡ index x) → (xs : List X) → Rises xs → Rises (changed c i f xs)
  rises-changed c i f cases indices xs rises =
      rises-map (λ x. cond (is_named c i x) (f x) x)
      (λ x. cond_both (is_named c i x) (f x) x (λ y. case y ≡ case x) (λ _. cases x) (λ _. refl))
      (λ x. cond_both (is_named c i x) (f x) x (λ y. index y ≡ index x) (λ _. indices x) (λ _. refl)) xs rises

  -- the place of a row that has the case and the index
  pub found_there : (c i : ℕ) (xs : List X) (r : Result ℕ ℕ) → list_any (is_named c i) xs ≡ true → MatchResult r (StandsAt (is_named c i) xs) (BelongsAt (lower c i) (higher c i) xs) → IsOk r
  found_there c i xs (Ok at) has found = refl
  found_there c i xs (Err at) has found = absurd (both_ways _ (none_named c i xs at found) has)
