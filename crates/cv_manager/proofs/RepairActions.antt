-- The repairs of a case name registers from x1 to x31.
use Rattle.std.proofs.Common.{◌≡◌, ℕ, Bool, true, false, not, ◌&&◌, List, [], ◌∷◌, ◌++◌, ◌∙◌, refl, ap, map, Option, Some, None}
use Rattle.std.proofs.lemmas.Bool.{and_from, and_parts}
use Rattle.std.proofs.lemmas.List.Elements.{All-filter}
use Rattle.std.proofs.lemmas.List.Folds.{list_all-append, list_all-map}
use Rattle.std.proofs.lemmas.List.Sums.{AllPass-from_list_all, list_all-from_AllPass}
use Rattle.std.specs.List.{filter, list_all}
use Rattle.std.specs.Prelude.{◌+◌, ◌==◌, if◌then◌else◌}
use Rattle.cv_base.specs.declared.cases.Case.{Case}
use Rattle.cv_base.specs.declared.cases.Repair.{Repair}
use Rattle.cv_base.specs.declared.invariants.Invariant.{Invariant}
use Rattle.cv_base.specs.declared.invariants.Invariant.TheVariants.{OneOf, Lower, LessThan, SpOffset}
use Rattle.cv_base.specs.declared.patches.Action.{Action}
use Rattle.cv_base.specs.declared.patches.Action.TheVariants.{SetConst, SetCopy, Skip}
use Rattle.cv_base.specs.Invariants.{is_invariant, is_register}
use Rattle.cv_base.specs.Patches.{is_action}
use Rattle.cv_base.specs.Picture.{Picture}
use Rattle.cv_base.specs.PlanOf.{PlanOf}
use Rattle.cv_histories.specs.Classes.{first_checked, is_decided}
use Rattle.cv_histories.specs.Repairs.{Judged, actions_of, chosen, early_returns, is_highly, is_moderately, is_named_call, judged_from, offset_at, or_else, repairs_for, repairs_of, returns_of, sets_of, skips_of}
use Rattle.cv_histories.specs.Seen.{Seen}
use Rattle.cv_isa.specs.Instruction.{Instruction}
use Rattle.cv_runs.specs.Invariants.{point_of}
use Rattle.cv_runs.specs.Text.{inst_at, reads}

abbrev pub names_registers : Repair → Bool
names_registers r = is_action r.action

abbrev repair_by : ℕ → Action → Repair
repair_by candidate action = record { candidate = candidate; action = action }

abbrev judges_invariant : Judged → Bool
judges_invariant j = is_invariant j.invariant

module _ {X : Type 0} (p : X → Bool) where
  both_pass : (xs ys : List X) → list_all p xs ≡ true → list_all p ys ≡ true → list_all p (xs ++ ys) ≡ true
  both_pass xs ys first second = list_all-append p xs ys ∙ and_from (list_all p xs) (list_all p ys) first second

  kept_pass : (test : X → Bool) (xs : List X) → list_all p xs ≡ true → list_all p (filter test xs) ≡ true
  kept_pass test xs all =
      list_all-from_AllPass p (filter test xs) (All-filter test (λ x. p x ≡ true) xs (AllPass-from_list_all p xs all))

-- what restores an invariant
constants_name : (reg : ℕ) (values : List ℕ) → is_register reg ≡ true → list_all is_action (map (λ value. SetConst reg value) values) ≡ true
constants_name reg [] is = refl
constants_name reg (v ∷ vs) is = and_from _ _ is (constants_name reg vs is)

copy_names : (b : Bool) (low high : ℕ) → is_register low ≡ true → is_register high ≡ true → list_all is_action ((if b then SetCopy low high else SetCopy high low) ∷ []) ≡ true
copy_names true low high is_low is_high = and_from _ _ (and_from _ _ is_low is_high) refl
copy_names false low high is_low is_high = and_from _ _ (and_from _ _ is_high is_low) refl

register_of_values : (point reg : ℕ) (values : List ℕ) → is_invariant (OneOf point reg values) ≡ true → is_register reg ≡ true
register_of_values point reg values is = (and_parts _ _ (and_parts _ _ (and_parts _ _ is).0).0).0

sets_name : (image : Picture) (k : Invariant) → is_invariant k ≡ true → list_all is_action (sets_of image k) ≡ true
sets_name image (OneOf point reg values) is = constants_name reg values (register_of_values point reg values is)
sets_name image (Lower point reg bound) is = and_from _ _ is refl
sets_name image (LessThan point low high) is =
    let registers = and_parts (is_register low) (is_register high) (and_parts (is_register low && is_register high) (not (low == high)) is).0 in
    copy_names (reads (inst_at image point) low) low high registers.0 registers.1
sets_name image (SpOffset point offset) is = refl

-- a skip and an early return name none
skip_names : (b : Bool) → list_all is_action (if b then Skip ∷ [] else []) ≡ true
skip_names true = refl
skip_names false = refl

skips_name : (k : Invariant) (i : Option Instruction) → list_all is_action (skips_of k i) ≡ true
skips_name k None = refl
skips_name k (Some i) = skip_names (is_named_call k i i.op)

returns_name : (o : Option ℕ) → list_all is_action (returns_of o) ≡ true
returns_name None = refl
returns_name (Some offset) = refl

early_returns_name : (candidates : List Invariant) (k : Invariant) → list_all is_action (early_returns candidates k) ≡ true
early_returns_name candidates (OneOf point reg values) = returns_name (offset_at point candidates)
early_returns_name candidates (Lower point reg bound) = returns_name (offset_at point candidates)
early_returns_name candidates (LessThan point low high) = returns_name (offset_at point candidates)
early_returns_name candidates (SpOffset point offset) = refl

module _ (image : Picture) (candidates : List Invariant) where
  actions_name : (k : Invariant) → is_invariant k ≡ true → list_all is_action (actions_of image candidates k) ≡ true
  actions_name k is =
      let skips = skips_of k (inst_at image (point_of k)) in
      both_pass is_action (sets_of image k ++ skips) (early_returns candidates k) (both_pass is_action (sets_of image k) skips (sets_name image k is) (skips_name k (inst_at image (point_of k)))) (early_returns_name candidates k)

  repairs_name : (judged : List Judged) → list_all judges_invariant judged ≡ true → list_all names_registers (repairs_for image candidates judged) ≡ true
  repairs_name [] all = refl
  repairs_name (j ∷ js) all =
      let parts = and_parts (is_invariant j.invariant) (list_all judges_invariant js) all in
      let by = λ (action : Action). repair_by j.index action in
      let actions = actions_of image candidates j.invariant in
      both_pass names_registers (map by actions) (repairs_for image candidates js)
      (list_all-map names_registers by actions ∙ actions_name j.invariant parts.0)
      (repairs_name js parts.1)

-- the chosen candidates are invariants
judged_same : (c x : ℕ) (seen : List Seen) (ks : List Invariant) → list_all judges_invariant (judged_from c x seen ks) ≡ list_all is_invariant ks
judged_same c x seen [] = refl
judged_same c x seen (k ∷ ks) = ap (λ (b : Bool). is_invariant k && b) (judged_same c (x + 1) seen ks)

either_pass : (js others : List Judged) → list_all judges_invariant js ≡ true → list_all judges_invariant others ≡ true → list_all judges_invariant (or_else js others) ≡ true
either_pass [] others first second = second
either_pass (j ∷ js) others first second = first

chosen_pass : (judged : List Judged) → list_all judges_invariant judged ≡ true → list_all judges_invariant (chosen judged) ≡ true
chosen_pass judged all =
    either_pass (filter (λ (j : Judged). is_highly j.class) judged) (filter (λ (j : Judged). is_moderately j.class) judged)
    (kept_pass judges_invariant (λ (j : Judged). is_highly j.class) judged all)
    (kept_pass judges_invariant (λ (j : Judged). is_moderately j.class) judged all)

module _ (plan : PlanOf) (c : ℕ) (case : Case) (past : List Seen) (kinds : list_all is_invariant case.candidates ≡ true) where
  abbrev judged : List Judged
  judged = judged_from c 0 (first_checked plan c case past) case.candidates

  if_decided : (b : Bool) → list_all names_registers (elim b as (λ _. List Repair) [ true ↦ repairs_for plan.image case.candidates (chosen judged) | false ↦ [] ]) ≡ true
  if_decided true =
      repairs_name plan.image case.candidates (chosen judged) (chosen_pass judged (judged_same c 0 (first_checked plan c case past) case.candidates ∙ kinds))
  if_decided false = refl

  pub repairs_name_registers : list_all names_registers (repairs_of plan c case past) ≡ true
  repairs_name_registers = if_decided (is_decided plan c case past)
