-- What stands in a list, and what holds of each element, by recursion.
use Rattle.std.proofs.Common.{◌≡◌, ◌<◌, ◌⊎◌, inl, inr, ⊎_elim, Bool, true, false, cond, ◌&&◌, List, [], ◌∷◌, ◌++◌, length, map, refl, sym, ap, ◌∙◌, subst, arith}
use Rattle.std.proofs.lemmas.Bool.{false≢true, cond-true, cond_both, and_parts, or_cases}
use Rattle.std.specs.List.{AllByRecursion, filter, flat_map, list_all, list_any}

-- the element stands in the list
abbrev pub In : {X : Type 0} → X → List X → Type 0
In x [] = ⊥
In x (y ∷ ys) = (x ≡ y) ⊎ In x ys

module _ {X : Type 0} where
  pub All-at : (P : X → Type 0) (x : X) (xs : List X) → AllByRecursion P xs → In x xs → P x
  All-at P x [] all there = absurd there
  All-at P x (y ∷ ys) all there =
      ⊎_elim (λ e. subst P (sym e) all.0) (λ behind. All-at P x ys all.1 behind) there

  -- what holds of each element that stands in the list
  pub All-standing : (P : X → Type 0) (xs : List X) → ((x : X) → In x xs → P x) → AllByRecursion P xs
  All-standing P [] each = tt
  All-standing P (x ∷ xs) each = (each x (inl refl), All-standing P xs (λ y there. each y (inr there)))

  pub All-joined : (P : X → Type 0) (xs ys : List X) → AllByRecursion P xs → AllByRecursion P ys → AllByRecursion P (xs ++ ys)
  All-joined P [] ys first rest = rest
  All-joined P (x ∷ xs) ys first rest = (first.0, All-joined P xs ys first.1 rest)

  pub In-first : (x : X) (xs ys : List X) → In x xs → In x (xs ++ ys)
  In-first x [] ys there = absurd there
  In-first x (y ∷ xs) ys there = ⊎_elim inl (λ behind. inr (In-first x xs ys behind)) there

  pub In-rest : (x : X) (xs ys : List X) → In x ys → In x (xs ++ ys)
  In-rest x [] ys there = there
  In-rest x (y ∷ xs) ys there = inr (In-rest x xs ys there)

  pub some_In : (x : X) (xs : List X) → In x xs → 0 < length xs
  some_In x [] there = absurd there
  some_In x (y ∷ ys) there = omega arith

  module _ (test : X → Bool) where
    pub In-filter : (x : X) (xs : List X) → In x xs → test x ≡ true → In x (filter test xs)
    In-filter x [] there passes = absurd there
    In-filter x (y ∷ ys) there passes =
        ⊎_elim
        (λ e. subst (λ l. In x l) (sym (cond-true (test y) (y ∷ filter test ys) (filter test ys) (ap test (sym e) ∙ passes))) (inl e))
        (λ behind.
        let kept = In-filter x ys behind passes in
        cond_both (test y) (y ∷ filter test ys) (filter test ys) (λ l. In x l) (λ _. inr kept) (λ _. kept))
        there

    pub All-passing : (P : X → Type 0) (xs : List X) → ((x : X) → In x xs → test x ≡ true → P x) → AllByRecursion P (filter test xs)
    All-passing P [] each = tt
    All-passing P (x ∷ xs) each =
        let rest = All-passing P xs (λ y there. each y (inr there)) in
        cond_both (test x) (x ∷ filter test xs) (filter test xs) (λ l. AllByRecursion P l) (λ passes. (each x (inl refl) passes, rest)) (λ _. rest)

    pub passes-at : (x : X) (xs : List X) → list_all test xs ≡ true → In x xs → test x ≡ true
    passes-at x [] all there = absurd there
    passes-at x (y ∷ ys) all there =
        let parts = and_parts (test y) (list_all test ys) all in
        ⊎_elim (λ e. ap test e ∙ parts.0) (λ behind. passes-at x ys parts.1 behind) there

    -- an element that passes
    pub passing_In : (xs : List X) → list_any test xs ≡ true → (x : X) × In x xs × (test x ≡ true)
    passing_In [] some = absurd (false≢true some)
    passing_In (x ∷ xs) some =
        ⊎_elim
        (λ passes. (x, inl refl, passes))
        (λ later. let found = passing_In xs later in (found.0, inr found.1, found.2))
        (or_cases (test x) (list_any test xs) some)

    module _ (other : X → Bool) where
      twice_at : (b : Bool) (x : X) (kept both : List X) → filter other kept ≡ both → filter other (cond b (x ∷ kept) kept) ≡ cond (b && other x) (x ∷ both) both
      twice_at true x kept both rest = ap (λ l. cond (other x) (x ∷ l) l) rest
      twice_at false x kept both rest = rest

      -- a filter of a filter is one by both tests
      pub filter_twice : (xs : List X) → filter other (filter test xs) ≡ filter (λ x. test x && other x) xs
      filter_twice [] = refl
      filter_twice (x ∷ xs) =
          twice_at (test x) x (filter test xs) (filter (λ y. test y && other y) xs) (filter_twice xs)

module _ {X Y : Type 0} where
  pub All-mapped : (P : Y → Type 0) (f : X → Y) (xs : List X) → AllByRecursion (λ x. P (f x)) xs → AllByRecursion P (map f xs)
  All-mapped P f [] all = tt
  All-mapped P f (x ∷ xs) all = (all.0, All-mapped P f xs all.1)

  pub In-map : (f : X → Y) (x : X) (xs : List X) → In x xs → In (f x) (map f xs)
  In-map f x [] there = absurd there
  In-map f x (y ∷ ys) there = ⊎_elim (λ e. inl (ap f e)) (λ behind. inr (In-map f x ys behind)) there

  pub All-flat_map : (P : Y → Type 0) (f : X → List Y) (xs : List X) → AllByRecursion (λ x. AllByRecursion P (f x)) xs → AllByRecursion P (flat_map f xs)
  All-flat_map P f [] all = tt
  All-flat_map P f (x ∷ xs) all = All-joined P (f x) (flat_map f xs) all.0 (All-flat_map P f xs all.1)

  pub In-flat_map : (f : X → List Y) (x : X) (xs : List X) (y : Y) → In x xs → In y (f x) → In y (flat_map f xs)
  In-flat_map f x [] y there piece = absurd there
  In-flat_map f x (z ∷ zs) y there piece =
      ⊎_elim
      (λ e. In-first y (f z) (flat_map f zs) (subst (λ w. In y (f w)) e piece))
      (λ behind. In-rest y (f z) (flat_map f zs) (In-flat_map f x zs y behind piece))
      there
