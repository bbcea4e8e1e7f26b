-- Rows that rise by their keys, and of which each is the row of the notes with its key, are the rows
-- that the notes give, once those with no note are left out.
use Rattle.std.proofs.Common.{◌≡◌, ℕ, ◌<◌, ◌⊎◌, inl, inr, ⊎_elim, Bool, true, ◌&&◌, not, eqb, ltb, List, [], ◌∷◌, length, map, refl, sym, ap, ◌∙◌, subst, arith}
use Rattle.std.proofs.lemmas.Bool.{cases_Bool, eqb-true, eq-eqb, ltb-true, and_parts, or_cases}
use Rattle.std.proofs.lemmas.Bool.Decides.{nat_tests}
use Rattle.std.proofs.lemmas.List.Filters.{length-filter_both}
use Rattle.std.proofs.lemmas.List.Kept.{AllPairs-filter}
use Rattle.std.specs.List.{AllByRecursion, AllPairs, filter, flat_map, list_all, list_any}
use Rattle.cv_runs.specs.Learned.{distinct}
use Rattle.cv_patch.specs.Counts.{is_before}
use Rattle.cv_patch.proofs.DistinctKeys.{All-distinct, Rising-distinct, In-distinct}
use Rattle.cv_patch.proofs.Rising.{Rising, Rising-from_pairs, Rising-mapped, Rising-flat_map, same_members}
use Rattle.cv_patch.proofs.Standing.{In, All-at, All-standing, All-passing, All-mapped, All-flat_map, In-filter, In-map, In-flat_map, some_In, passes-at, passing_In, filter_twice}

some_before : {X : Type 0} (test : X → Bool) (xs : List X) → 0 < length (filter test xs) → 0 < length xs
some_before test xs some =
    omega (arith, length-filter_both test (λ x. not (test x)) (λ x. refl) xs)

key_In : {X : Type 0} (key : X → ℕ) (k : ℕ) (xs : List X) → 0 < length (filter (λ x. eqb (key x) k) xs) → In k (map key xs)
key_In key k [] some = absurd (omega arith)
key_In key k (x ∷ xs) some =
    ⊎_elim
    (λ same. inl (sym (eqb-true (key x) k same)))
    (λ other. inr (key_In key k xs (rw other at some)))
    (cases_Bool (eqb (key x) k))

not_zero : (n : ℕ) → not (eqb n 0) ≡ true → 0 < n
not_zero n h = grind (arith, nat_tests)

counted_is : (n : ℕ) → 0 < n → not (eqb n 0) ≡ true
counted_is n h = grind (arith, nat_tests)

-- notes with a case and an index, and the row of the notes with one case and index
module _ {Note Row : Type 0} (case index : Note → ℕ) (row : ℕ → ℕ → List Note → Row) where
  abbrev pub of_case : ℕ → List Note → List Note
  of_case a notes = filter (λ n. eqb (case n) a) notes

  abbrev pub of_key : ℕ → ℕ → List Note → List Note
  of_key a b notes = filter (λ n. eqb (index n) b) (of_case a notes)

  abbrev pub case_rows : ℕ → List Note → List Row
  case_rows a notes =
      map (λ b. row a b (filter (λ n. eqb (index n) b) notes)) (distinct (map index notes))

  abbrev pub rows_of : List Note → List Row
  rows_of notes = flat_map (λ a. case_rows a (of_case a notes)) (distinct (map case notes))

  row_In : (a b : ℕ) (notes : List Note) → 0 < length (of_key a b notes) → In (row a b (of_key a b notes)) (rows_of notes)
  row_In a b notes some =
      let some_case : 0 < length (of_case a notes) = some_before (λ n. eqb (index n) b) (of_case a notes) some in
      In-flat_map (λ c. case_rows c (of_case c notes)) a (distinct (map case notes)) (row a b (of_key a b notes))
      (In-distinct a (map case notes) (key_In case a notes some_case))
      (In-map (λ d. row a d (of_key a d notes)) b (distinct (map index (of_case a notes))) (In-distinct b (map index (of_case a notes)) (key_In index b (of_case a notes) some)))

  module _ (first second count : Row → ℕ) (first_is : (a b : ℕ) (notes : List Note) → first (row a b notes) ≡ a) (second_is : (a b : ℕ) (notes : List Note) → second (row a b notes) ≡ b) (count_is : (a b : ℕ) (notes : List Note) → count (row a b notes) ≡ length notes) where
    abbrev Before : Row → Row → Type 0
    Before r s = (first r < first s) ⊎ ((first r ≡ first s) × (second r < second s))

    strict : (r s : Row) → Before r s → Before s r → ⊥
    strict r s up down =
        ⊎_elim
        (λ low. ⊎_elim (λ high. omega arith) (λ same. omega arith) down)
        (λ level. ⊎_elim (λ high. omega arith) (λ same. omega arith) down)
        up

    before : (r s : Row) → is_before (first r) (second r) (first s) (second s) ≡ true → Before r s
    before r s is =
        ⊎_elim
        (λ low. inl (ltb-true (first r) (first s) low))
        (λ level.
        let parts = and_parts (eqb (first r) (first s)) (ltb (second r) (second s)) level in
        inr (eqb-true (first r) (first s) parts.0, ltb-true (second r) (second s) parts.1))
        (or_cases (ltb (first r) (first s)) (eqb (first r) (first s) && ltb (second r) (second s)) is)

    rows_rise : (notes : List Note) → Rising Before (rows_of notes)
    rows_rise notes =
        Rising-flat_map Before (λ a. case_rows a (of_case a notes))
        (λ a. Rising-mapped Before (λ b. row a b (of_key a b notes)) (level a) (distinct (map index (of_case a notes))) (Rising-distinct (map index (of_case a notes))))
        (λ a b up.
        All-mapped (λ r. AllByRecursion (Before r) (case_rows b (of_case b notes))) (λ c. row a c (of_key a c notes)) (distinct (map index (of_case a notes)))
        (All-standing (λ c. AllByRecursion (Before (row a c (of_key a c notes))) (case_rows b (of_case b notes))) (distinct (map index (of_case a notes)))
        (λ c there.
        All-mapped (Before (row a c (of_key a c notes))) (λ d. row b d (of_key b d notes)) (distinct (map index (of_case b notes)))
        (All-standing (λ d. Before (row a c (of_key a c notes)) (row b d (of_key b d notes))) (distinct (map index (of_case b notes))) (λ d there'. low a c b d up)))))
        (distinct (map case notes)) (Rising-distinct (map case notes))
      where
        level : (a b c : ℕ) → b < c → Before (row a b (of_key a b notes)) (row a c (of_key a c notes))
        level a b c up =
            inr (first_is a b (of_key a b notes) ∙ sym (first_is a c (of_key a c notes)), omega (arith, second_is a b (of_key a b notes), second_is a c (of_key a c notes)))

        low : (a c b d : ℕ) → a < b → Before (row a c (of_key a c notes)) (row b d (of_key b d notes))
        low a c b d up =
            inl (omega (arith, first_is a c (of_key a c notes), first_is b d (of_key b d notes)))

    abbrev counted : Row → Bool
    counted r = not (eqb (count r) 0)

    -- the row of the notes with its key
    abbrev IsItsRow : List Note → Row → Type 0
    IsItsRow notes r =
        r ≡ row (first r) (second r) (filter (λ n. eqb (case n) (first r) && eqb (index n) (second r)) notes)

    abbrev is_at : Note → Row → Bool
    is_at n r = eqb (first r) (case n) && eqb (second r) (index n)

    abbrev has_row : List Row → Note → Bool
    has_row rows n = list_any (is_at n) rows

    module _ (rows : List Row) (notes : List Note) (each : AllByRecursion (IsItsRow notes) rows) where
      row_is : (r : Row) → In r rows → r ≡ row (first r) (second r) (of_key (first r) (second r) notes)
      row_is r there =
          All-at (IsItsRow notes) r rows each there
          ∙ ap (row (first r) (second r)) (sym (filter_twice (λ n. eqb (case n) (first r)) (λ n. eqb (index n) (second r)) notes))

      -- a row that counts something is one that the notes give
      given : (r : Row) → In r rows → counted r ≡ true → In r (rows_of notes)
      given r there counts =
          let e = row_is r there in
          let n : count r ≡ length (of_key (first r) (second r) notes) = ap count e ∙ count_is (first r) (second r) (of_key (first r) (second r) notes) in
          let some : 0 < count r = not_zero (count r) counts in
          subst (λ s. In s (rows_of notes)) (sym e) (row_In (first r) (second r) notes (omega arith))

      -- the row of a note's key
      kept : list_all (has_row rows) notes ≡ true → (a : ℕ) (n : Note) → In n notes → eqb (case n) a ≡ true → In (row a (index n) (of_key a (index n) notes)) (filter counted rows)
      kept all a n there is =
          let found = passing_In (is_at n) rows (passes-at (has_row rows) n notes all there) in
          let r : Row = found.0 in
          let parts = and_parts (eqb (first r) (case n)) (eqb (second r) (index n)) found.2 in
          let p : first r ≡ a = eqb-true (first r) (case n) parts.0 ∙ eqb-true (case n) a is in
          let q : second r ≡ index n = eqb-true (second r) (index n) parts.1 in
          let e : r ≡ row a (index n) (of_key a (index n) notes) = row_is r found.1 ∙ (λ i. row (p i) (q i) (of_key (p i) (q i) notes)) in
          let among : In n (of_key a (index n) notes) = In-filter (λ m. eqb (index m) (index n)) n (of_case a notes) (In-filter (λ m. eqb (case m) a) n notes there is) (eq-eqb (index n) (index n) refl) in
          let some : 0 < length (of_key a (index n) notes) = some_In n (of_key a (index n) notes) among in
          let c : count r ≡ length (of_key a (index n) notes) = ap count e ∙ count_is a (index n) (of_key a (index n) notes) in
          subst (λ s. In s (filter counted rows)) e (In-filter counted r rows found.1 (counted_is (count r) (omega arith)))

      all_kept : list_all (has_row rows) notes ≡ true → AllByRecursion (λ r. In r (filter counted rows)) (rows_of notes)
      all_kept all =
          let Kept : Row → Type 0 = λ r. In r (filter counted rows) in
          All-flat_map Kept (λ a. case_rows a (of_case a notes)) (distinct (map case notes))
          (All-standing (λ a. AllByRecursion Kept (case_rows a (of_case a notes))) (distinct (map case notes))
          (λ a there.
          let KeptAt : ℕ → Type 0 = λ b. Kept (row a b (of_key a b notes)) in
          All-mapped Kept (λ b. row a b (of_key a b notes)) (distinct (map index (of_case a notes)))
          (All-distinct KeptAt (map index (of_case a notes))
          (All-mapped KeptAt index (of_case a notes)
          (All-passing (λ n. eqb (case n) a) (λ n. KeptAt (index n)) notes (kept all a))))))

      pub rows_are : AllPairs (λ r s. is_before (first r) (second r) (first s) (second s) ≡ true) rows → list_all (has_row rows) notes ≡ true → filter counted rows ≡ rows_of notes
      rows_are rises all =
          same_members Before strict (filter counted rows) (rows_of notes)
          (Rising-from_pairs Before (filter counted rows) (AllPairs-filter Before counted rows (λ i j d up below. before _ _ (rises i j d up below))))
          (rows_rise notes)
          (All-passing counted (λ r. In r (rows_of notes)) rows given)
          (all_kept all)
