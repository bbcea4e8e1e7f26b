-- Where no row says that a repair fired, no note does.
use Rattle.std.proofs.Common.{◌≡◌, ℕ, Bool, true, false, List, [], ◌∷◌, ◌++◌, map, filter, fold, Ordering, refl, ap, arith}
use Rattle.std.specs.Prelude.{◌==◌, if◌then◌else◌}
use Rattle.std.proofs.lemmas.Bool.Decides.{nat_tests}
use Rattle.std.specs.BTreeSet.{insert_key}
use Rattle.std.specs.List.{AllByRecursion, flat_map}
use Rattle.std.specs.Ordering.{match_ordering, nat_cmp}
use Rattle.std.specs.declared.cmp.Ordering.TheVariants.{Less, Equal, Greater}
use Rattle.cv_histories.specs.Rows.{FiredNote, firings_in, case_fired, fired_of}
use Rattle.cv_runs.specs.Apply.{Note, Checked, Fired}
use Rattle.cv_runs.specs.Learned.{distinct}

-- two lists that make an empty one are empty
both_empty : {A : Type 0} (xs ys : List A) → xs ++ ys ≡ [] → (xs ≡ []) × (ys ≡ [])
both_empty [] ys none = (refl, none)
both_empty (x ∷ xs) ys none = cc

-- the distinct numbers of a list that is not empty are not none
module _ (ns : List ℕ) (rest : (k : ℕ) (keys : List ℕ) → fold (insert_key nat_cmp) (k ∷ keys) ns ≡ [] → ⊥) where
  by_order : (o : Ordering) (k x : ℕ) (xs more : List ℕ) → fold (insert_key nat_cmp) (match_ordering o (k ∷ x ∷ xs) (x ∷ xs) (x ∷ more)) ns ≡ [] → ⊥
  by_order Less k x xs more = rest k (x ∷ xs)
  by_order Equal k x xs more = rest x xs
  by_order Greater k x xs more = rest x more

some_stay : (ns : List ℕ) (k : ℕ) (keys : List ℕ) → fold (insert_key nat_cmp) (k ∷ keys) ns ≡ [] → ⊥
some_stay [] k keys none = cc
some_stay (n ∷ ns) k keys none = by_order ns (some_stay ns) (nat_cmp n k) n k keys (insert_key nat_cmp keys n) none

some_distinct : (n : ℕ) (ns : List ℕ) → distinct (n ∷ ns) ≡ [] → ⊥
some_distinct n ns = some_stay ns n []

-- what holds of all numbers of a list holds of the distinct ones
module _ (P : ℕ → Type 0) where
  all_placed : (o : Ordering) (k x : ℕ) (xs more : List ℕ) → P k → AllByRecursion P (x ∷ xs) → AllByRecursion P more → AllByRecursion P (match_ordering o (k ∷ x ∷ xs) (x ∷ xs) (x ∷ more))
  all_placed Less k x xs more one all rest = (one, all)
  all_placed Equal k x xs more one all rest = all
  all_placed Greater k x xs more one all rest = (all.0, rest)

  all_put : (xs : List ℕ) (k : ℕ) → AllByRecursion P xs → P k → AllByRecursion P (insert_key nat_cmp xs k)
  all_put [] k all one = (one, tt)
  all_put (x ∷ xs) k all one =
      all_placed (nat_cmp k x) k x xs (insert_key nat_cmp xs k) one all (all_put xs k all.1 one)

  all_folded : (keys xs : List ℕ) → AllByRecursion P keys → AllByRecursion P xs → AllByRecursion P (fold (insert_key nat_cmp) keys xs)
  all_folded keys [] some all = some
  all_folded keys (x ∷ xs) some all = all_folded (insert_key nat_cmp keys x) xs (all_put keys x some all.0) all.1

all_distinct : (P : ℕ → Type 0) (xs : List ℕ) → AllByRecursion P xs → AllByRecursion P (distinct xs)
all_distinct P xs all = all_folded P [] xs tt all

abbrev of_case : ℕ → List FiredNote → List FiredNote
of_case case firings = filter (λ (f : FiredNote). f.case == case) firings

of_itself : (f : FiredNote) (fs : List FiredNote) → of_case f.case (f ∷ fs) ≡ [] → ⊥
of_itself f fs none =
    let same : (f.case == f.case) ≡ true = grind (arith, nat_tests) in
    let some : of_case f.case (f ∷ fs) ≡ f ∷ of_case f.case fs = ap (λ b. if b then f ∷ of_case f.case fs else of_case f.case fs) same in
    cc

of_rest_by : (b : Bool) (f : FiredNote) (rest : List FiredNote) → (if b then f ∷ rest else rest) ≡ [] → rest ≡ []
of_rest_by true f rest none = cc
of_rest_by false f rest none = none

-- each case of some firings has firings of its own
each_some : (all fs : List FiredNote) → ((case : ℕ) → of_case case all ≡ [] → of_case case fs ≡ []) → AllByRecursion (λ (case : ℕ). of_case case all ≡ [] → ⊥) (map (λ (f : FiredNote). f.case) fs)
each_some all [] within = tt
each_some all (f ∷ fs) within = (
  λ none. of_itself f fs (within f.case none),
  each_some all fs (λ case none. of_rest_by (f.case == case) f (of_case case fs) (within case none)),
)

some_mapped : {A B : Type 0} (f : A → B) (xs : List A) → (xs ≡ [] → ⊥) → map f xs ≡ [] → ⊥
some_mapped f [] some none = some refl
some_mapped f (x ∷ xs) some none = cc

case_some : (case : ℕ) (fs : List FiredNote) → (fs ≡ [] → ⊥) → case_fired case fs ≡ [] → ⊥
case_some case [] some none = some refl
case_some case (f ∷ fs) some none = some_mapped _ _ (some_distinct f.index (map (λ (g : FiredNote). g.index) fs)) none

-- cases with firings have rows
rows_some : (fs : List FiredNote) (cases : List ℕ) → (cases ≡ [] → ⊥) → AllByRecursion (λ (case : ℕ). of_case case fs ≡ [] → ⊥) cases → flat_map (λ case. case_fired case (of_case case fs)) cases ≡ [] → ⊥
rows_some fs [] some all none = some refl
rows_some fs (case ∷ cases) some all none =
    case_some case (of_case case fs) all.0
    (both_empty (case_fired case (of_case case fs)) (flat_map (λ case. case_fired case (of_case case fs)) cases) none).0

-- where there are no rows, there are no firings
pub no_firings : (fs : List FiredNote) → fired_of fs ≡ [] → fs ≡ []
no_firings [] none = refl
no_firings (f ∷ fs) none =
    let cases : List ℕ = map (λ (g : FiredNote). g.case) (f ∷ fs) in
    absurd (rows_some (f ∷ fs) (distinct cases) (some_distinct f.case (map (λ (g : FiredNote). g.case) fs))
    (all_distinct (λ (case : ℕ). of_case case (f ∷ fs) ≡ [] → ⊥) cases (each_some (f ∷ fs) (f ∷ fs) (λ case none. none))) none)

-- the firings of appended notes
firings-append : (xs ys : List Note) → firings_in (xs ++ ys) ≡ firings_in xs ++ firings_in ys
firings-append [] ys = refl
firings-append (Checked case index held ∷ xs) ys = firings-append xs ys
firings-append (Fired case index ∷ xs) ys = ap (λ (fs : List FiredNote). record { case = case; index = index } ∷ fs) (firings-append xs ys)

-- appended notes without a firing have none in either part
pub unfired_parts : (xs ys : List Note) → firings_in (xs ++ ys) ≡ [] → (firings_in xs ≡ []) × (firings_in ys ≡ [])
unfired_parts xs ys none = both_empty (firings_in xs) (firings_in ys) (rw firings-append at none)
