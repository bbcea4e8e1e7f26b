-- A case has few repairs: at most six of each candidate (docs/REPAIR.md, "Repairs").
use Rattle.std.proofs.Common.{◌≡◌, ◌≤◌, ℕ, ◌+◌, ◌*◌, Bool, true, false, cond, ◌&&◌, List, [], ◌∷◌, ◌++◌, length, map, Option, Some, None, refl, arith, length-append}
use Rattle.std.specs.Prelude.{filter, if◌then◌else◌}
use Rattle.std.specs.List.{AllByRecursion, list_all}
use Rattle.std.proofs.lemmas.Bool.Decides.{nat_tests}
use Rattle.std.proofs.lemmas.List.{length-map}
use Rattle.cv_base.specs.declared.cases.Repair.{Repair}
use Rattle.cv_base.specs.declared.invariants.Invariant.{Invariant}
use Rattle.cv_base.specs.declared.invariants.Invariant.TheVariants.{OneOf, Lower, LessThan, SpOffset}
use Rattle.cv_base.specs.declared.patches.Action.{Action}
use Rattle.cv_base.specs.declared.patches.Action.TheVariants.{Skip}
use Rattle.cv_base.specs.Invariants.{is_invariant}
use Rattle.cv_base.specs.Picture.{Picture}
use Rattle.cv_histories.specs.Repairs.{Judged, actions_of, chosen, early_returns, is_highly, is_moderately, is_named_call, judged_from, offset_at, or_else, repairs_for, returns_of, sets_of, skips_of}
use Rattle.cv_histories.specs.Seen.{Seen}
use Rattle.cv_isa.specs.Instruction.{Instruction}
use Rattle.cv_manager.proofs.Choosing.{all_chosen}
use Rattle.cv_runs.specs.Invariants.{point_of}
use Rattle.cv_runs.specs.Text.{inst_at}

first_of_both : (a b : Bool) → (a && b) ≡ true → a ≡ true
first_of_both true b h = refl
first_of_both false b h = h

rest_of_both : (a b : Bool) → (a && b) ≡ true → b ≡ true
rest_of_both true b h = h
rest_of_both false b h = absurd (grind arith)

few_sets : (image : Picture) (k : Invariant) → is_invariant k ≡ true → length (sets_of image k) ≤ 4
few_sets image (OneOf point reg values) h =
    rw length-map (grind (arith, nat_tests))
few_sets image (Lower point reg bound) h = omega arith
few_sets image (LessThan point low high) h = omega arith
few_sets image (SpOffset point offset) h = omega arith

one_or_none : (b : Bool) (a : Action) → length (if b then a ∷ [] else []) ≤ 1
one_or_none true a = omega arith
one_or_none false a = omega arith

few_skips : (k : Invariant) (i : Option Instruction) → length (skips_of k i) ≤ 1
few_skips k None = omega arith
few_skips k (Some i) = one_or_none (is_named_call k i i.op) Skip

few_returns : (offset : Option ℕ) → length (returns_of offset) ≤ 1
few_returns None = omega arith
few_returns (Some offset) = omega arith

few_early_returns : (candidates : List Invariant) (k : Invariant) → length (early_returns candidates k) ≤ 1
few_early_returns candidates (OneOf point reg values) = few_returns (offset_at point candidates)
few_early_returns candidates (Lower point reg bound) = few_returns (offset_at point candidates)
few_early_returns candidates (LessThan point low high) = few_returns (offset_at point candidates)
few_early_returns candidates (SpOffset point offset) = omega arith

few_actions : (image : Picture) (candidates : List Invariant) (k : Invariant) → is_invariant k ≡ true → length (actions_of image candidates k) ≤ 6
few_actions image candidates k h =
    simp length-append (omega (arith, few_sets image k h, few_skips k (inst_at image (point_of k)), few_early_returns candidates k))

one_more : (f : Action → Repair) (actions : List Action) (rest : List Repair) (n : ℕ) → length actions ≤ 6 → length rest ≤ 6 * n → length (map f actions ++ rest) ≤ 6 * (n + 1)
one_more f actions rest n h more = simp (length-append, length-map) (omega arith)

few_repairs_for : (image : Picture) (candidates : List Invariant) (js : List Judged) → AllByRecursion (λ (j : Judged). is_invariant j.invariant ≡ true) js → length (repairs_for image candidates js) ≤ 6 * length js
few_repairs_for image candidates [] all = omega arith
few_repairs_for image candidates (j ∷ js) all =
    let here = one_more (λ action. record { candidate = j.index; action = action }) (actions_of image candidates j.invariant) (repairs_for image candidates js) (length js) (few_actions image candidates j.invariant all.0) (few_repairs_for image candidates js all.1) in
    omega (arith, here)

few_cond : (b : Bool) (j : Judged) (js : List Judged) (n : ℕ) → length js ≤ n → length (cond b (j ∷ js) js) ≤ n + 1
few_cond true j js n h = omega arith
few_cond false j js n h = omega arith

few_filter : (test : Judged → Bool) (js : List Judged) → length (filter test js) ≤ length js
few_filter test [] = omega arith
few_filter test (j ∷ js) = omega (arith, few_cond (test j) j (filter test js) (length js) (few_filter test js))

few_or : (js others : List Judged) (n : ℕ) → length js ≤ n → length others ≤ n → length (or_else js others) ≤ n
few_or [] others n h g = g
few_or (j ∷ js) others n h g = h

few_chosen : (js : List Judged) → length (chosen js) ≤ length js
few_chosen js =
    few_or (filter (λ (j : Judged). is_highly j.class) js) (filter (λ (j : Judged). is_moderately j.class) js) (length js) (few_filter (λ (j : Judged). is_highly j.class) js) (few_filter (λ (j : Judged). is_moderately j.class) js)

module _ (c : ℕ) (seen : List Seen) where
  as_many_judged : (x : ℕ) (ks : List Invariant) → length (judged_from c x seen ks) ≡ length ks
  as_many_judged x [] = refl
  as_many_judged x (k ∷ ks) = omega (arith, as_many_judged (x + 1) ks)

  invariants_judged : (x : ℕ) (ks : List Invariant) → list_all is_invariant ks ≡ true → AllByRecursion (λ (j : Judged). is_invariant j.invariant ≡ true) (judged_from c x seen ks)
  invariants_judged x [] h = tt
  invariants_judged x (k ∷ ks) h =
      (first_of_both (is_invariant k) (list_all is_invariant ks) h, invariants_judged (x + 1) ks (rest_of_both (is_invariant k) (list_all is_invariant ks) h))

  pub few_repairs : (image : Picture) (candidates : List Invariant) → list_all is_invariant candidates ≡ true → length (repairs_for image candidates (chosen (judged_from c 0 seen candidates))) ≤ 6 * length candidates
  few_repairs image candidates h =
      let judged = judged_from c 0 seen candidates in
      let each = all_chosen (λ (j : Judged). is_invariant j.invariant ≡ true) judged (invariants_judged 0 candidates h) in
      omega (arith, few_repairs_for image candidates (chosen judged) each, few_chosen judged, as_many_judged 0 candidates)
