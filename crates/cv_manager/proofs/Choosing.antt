-- The numbers that are chosen from the classes of a case's candidates are those of the candidates
-- that its repairs come from (docs/REPAIR.md, "Repairs").
use Rattle.std.proofs.Common.{◌≡◌, ◌<◌, ℕ, suc, ◌+◌, Bool, true, false, cond, List, [], ◌∷◌, ◌∙◌, length, map, Some, refl, ap, arith}
use Rattle.std.specs.Prelude.{filter, slice_get}
use Rattle.std.specs.List.{AllByRecursion}
use Rattle.std.proofs.lemmas.Option.{slice_get_within}
use Rattle.cv_base.specs.declared.cases.Class.{Class}
use Rattle.cv_base.specs.declared.invariants.Invariant.{Invariant}
use Rattle.cv_histories.specs.Classes.{class_over}
use Rattle.cv_histories.specs.Repairs.{Judged, chosen, is_highly, is_moderately, judged_from, or_else}
use Rattle.cv_histories.specs.Seen.{Seen}
use Rattle.cv_manager.specs.Progress.{chosen_numbers, classes_from, numbers_where, or_numbers}
use Rattle.cv_repair.specs.Chosen.{AreChosen}

abbrev index_of : Judged → ℕ
index_of j = j.index

module _ (c : ℕ) (seen : List Seen) where
  -- the numbers of the judged candidates of a class
  module _ (test : Class → Bool) where
    numbered_or_not : (b : Bool) (j : Judged) (js : List Judged) (numbers : List ℕ) → map index_of js ≡ numbers → map index_of (cond b (j ∷ js) js) ≡ elim b as (λ _. List ℕ) [ true ↦ j.index ∷ numbers | false ↦ numbers ]
    numbered_or_not true j js numbers h = ap (λ l. j.index ∷ l) h
    numbered_or_not false j js numbers h = h

    numbers_of_judged : (x : ℕ) (ks : List Invariant) → map index_of (filter (λ (j : Judged). test j.class) (judged_from c x seen ks)) ≡ numbers_where test x (classes_from c x seen ks)
    numbers_of_judged x [] = refl
    numbers_of_judged x (k ∷ ks) =
        numbered_or_not (test (class_over c x seen)) (record { index = x; invariant = k; class = class_over c x seen }) (filter (λ (j : Judged). test j.class) (judged_from c (x + 1) seen ks)) (numbers_where test (x + 1) (classes_from c (x + 1) seen ks)) (numbers_of_judged (x + 1) ks)

  numbers_or : (js others : List Judged) → map index_of (or_else js others) ≡ or_numbers (map index_of js) (map index_of others)
  numbers_or [] others = refl
  numbers_or (j ∷ js) others = refl

  chosen_numbered : (ks : List Invariant) → map index_of (chosen (judged_from c 0 seen ks)) ≡ chosen_numbers (classes_from c 0 seen ks)
  chosen_numbered ks =
      numbers_or (filter (λ (j : Judged). is_highly j.class) (judged_from c 0 seen ks)) (filter (λ (j : Judged). is_moderately j.class) (judged_from c 0 seen ks))
      ∙ ap (λ l. or_numbers l (map index_of (filter (λ (j : Judged). is_moderately j.class) (judged_from c 0 seen ks)))) (numbers_of_judged is_highly 0 ks)
      ∙ ap (or_numbers (numbers_where is_highly 0 (classes_from c 0 seen ks))) (numbers_of_judged is_moderately 0 ks)

-- what holds of all judged candidates holds of the chosen ones
module _ (P : Judged → Type 0) where
  all_cond : (b : Bool) (j : Judged) (js : List Judged) → P j → AllByRecursion P js → AllByRecursion P (cond b (j ∷ js) js)
  all_cond true j js h all = (h, all)
  all_cond false j js h all = all

  all_filter : (test : Judged → Bool) (js : List Judged) → AllByRecursion P js → AllByRecursion P (filter test js)
  all_filter test [] all = all
  all_filter test (j ∷ js) all = all_cond (test j) j (filter test js) all.0 (all_filter test js all.1)

  all_or : (js others : List Judged) → AllByRecursion P js → AllByRecursion P others → AllByRecursion P (or_else js others)
  all_or [] others all rest = rest
  all_or (j ∷ js) others all rest = all

  pub all_chosen : (js : List Judged) → AllByRecursion P js → AllByRecursion P (chosen js)
  all_chosen js all = all_or _ _ (all_filter (λ (j : Judged). is_highly j.class) js all) (all_filter (λ (j : Judged). is_moderately j.class) js all)

module _ (c : ℕ) (seen : List Seen) (candidates : List Invariant) where
  all_placed : (x : ℕ) (ks : List Invariant) → ((i : ℕ) → slice_get candidates (x + i) ≡ slice_get ks i) → AllByRecursion (λ (j : Judged). slice_get candidates j.index ≡ Some j.invariant) (judged_from c x seen ks)
  all_placed x [] same = tt
  all_placed x (k ∷ ks) same =
      let here : x + 0 ≡ x = omega arith in
      (rw here at (same 0), all_placed (x + 1) ks (λ i. let next : (x + 1) + i ≡ x + suc i = omega arith in rw next (same (suc i))))

  pub are_chosen : AreChosen candidates (chosen_numbers (classes_from c 0 seen candidates)) (chosen (judged_from c 0 seen candidates))
  are_chosen = record {
    numbers = chosen_numbered c seen candidates;
    invariants = all_chosen (λ (j : Judged). slice_get candidates j.index ≡ Some j.invariant) (judged_from c 0 seen candidates) (all_placed 0 candidates (λ i. let none : 0 + i ≡ i = omega arith in rw none refl));
  }

-- chosen numbers are those of candidates
within_from : (candidates : List Invariant) (js : List Judged) → AllByRecursion (λ (j : Judged). slice_get candidates j.index ≡ Some j.invariant) js → AllByRecursion (λ (x : ℕ). x < length candidates) (map index_of js)
within_from candidates [] all = tt
within_from candidates (j ∷ js) all = (slice_get_within candidates j.index j.invariant all.0, within_from candidates js all.1)

pub are_within : (candidates : List Invariant) (numbers : List ℕ) (judged : List Judged) → AreChosen candidates numbers judged → AllByRecursion (λ (x : ℕ). x < length candidates) numbers
are_within candidates numbers judged are = rw (← are.numbers) (within_from candidates judged are.invariants)
