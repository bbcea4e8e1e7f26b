-- The progress of cases before and behind others, and of cases that were opened just now.
use Rattle.std.proofs.Common.{◌≡◌, ◌<◌, ◌≤◌, ◌+◌, ℕ, suc, Bool, true, false, cond, List, [], ◌∷◌, ◌++◌, length, map, Option, None, refl, sym, ap, subst, ◌∙◌, append_assoc, arith}
use Rattle.std.specs.List.{AllByRecursion}
use Rattle.std.specs.Prelude.{nat_le}
use Rattle.std.proofs.lemmas.Bool.{lt-leb}
use Rattle.cv_base.specs.declared.cases.Case.{Case}
use Rattle.cv_base.specs.declared.cases.Change.{Change}
use Rattle.cv_base.specs.PlanOf.{PlanOf}
use Rattle.cv_histories.specs.Classes.{checked_failures, is_checked_failure, is_decided}
use Rattle.cv_histories.specs.Installed.{again, best_repair, change_to, changes_at, installed}
use Rattle.cv_histories.specs.Repairs.{repairs_of}
use Rattle.cv_histories.specs.Seen.{Seen}
use Rattle.cv_manager.specs.Progress.{ProgressOf, StandFrom, Stands, no_progress}

pub each_append : {X : Type 0} (P : X → Type 0) (xs ys : List X) → AllByRecursion P xs → AllByRecursion P ys → AllByRecursion P (xs ++ ys)
each_append P [] ys h k = k
each_append P (x ∷ xs) ys h k = (h.0, each_append P xs ys h.1 k)

pub stand_append : (plan : PlanOf) (c : ℕ) (past : List Seen) (xs ys : List Case) (ps qs : List ProgressOf) → StandFrom plan c past xs ps → StandFrom plan (c + length xs) past ys qs → StandFrom plan c past (xs ++ ys) (ps ++ qs)
stand_append plan c past [] ys [] qs h k = subst (λ (n : ℕ). StandFrom plan n past ys qs) (omega arith) k
stand_append plan c past [] ys (p ∷ ps) qs h k = absurd h
stand_append plan c past (x ∷ xs) ys [] qs h k = absurd h
stand_append plan c past (x ∷ xs) ys (p ∷ ps) qs h k =
    let next : c + length (x ∷ xs) ≡ (c + 1) + length xs = omega arith in
    (h.0, stand_append plan (c + 1) past xs ys ps qs h.1 (subst (λ (n : ℕ). StandFrom plan n past ys qs) next k))

-- one progress for each case
pub stand_long : (plan : PlanOf) (c : ℕ) (past : List Seen) (cases : List Case) (ps : List ProgressOf) → StandFrom plan c past cases ps → length ps ≡ length cases
stand_long plan c past [] [] h = refl
stand_long plan c past [] (p ∷ ps) h = absurd h
stand_long plan c past (x ∷ xs) [] h = absurd h
stand_long plan c past (x ∷ xs) (p ∷ ps) h = ap suc (stand_long plan (c + 1) past xs ps h.1)

-- ---- without checked failures

rest_of_none : {X : Type 0} (b : Bool) (x : X) (xs : List X) → cond b (x ∷ xs) xs ≡ [] → xs ≡ []
rest_of_none true x xs h = cc
rest_of_none false x xs h = h

pub none_before : (c : ℕ) (case : Case) (s : Seen) (past : List Seen) → checked_failures c case (s ∷ past) ≡ [] → checked_failures c case past ≡ []
none_before c case s past h = rest_of_none (is_checked_failure c case s) s (checked_failures c case past) h

module _ (plan : PlanOf) (some : 2 ≤ plan.checks) (c : ℕ) (case : Case) where
  pub undecided : (past : List Seen) → checked_failures c case past ≡ [] → is_decided plan c case past ≡ false
  undecided past none = let some_checks : 0 < plan.checks = omega arith in ap (λ (l : List Seen). nat_le plan.checks (length l)) none ∙ lt-leb plan.checks 0 some_checks

  pub new_stands : (past : List Seen) → checked_failures c case past ≡ [] → Stands plan c past case no_progress
  new_stands past none = record { checked = sym (ap length none); decided = undecided past none }

  none_installed : (past : List Seen) → checked_failures c case past ≡ [] → installed plan c case past ≡ None
  none_installed [] none = refl
  none_installed (s ∷ past) none =
      ap (λ (b : Bool).
      elim b as (λ _. Option ℕ) [
        | false ↦ None
        | true ↦ elim (is_decided plan c case past) as (λ _. Option ℕ) [
          | false ↦ best_repair c case (repairs_of plan c case (s ∷ past)) (s ∷ past)
          | true ↦ again plan c case s past (installed plan c case past)
        ]
      ])
      (undecided (s ∷ past) none)

  pub no_change : (s : Seen) (past : List Seen) → checked_failures c case (s ∷ past) ≡ [] → change_to (length past) c (installed plan c case past) (installed plan c case (s ∷ past)) ≡ []
  no_change s past none =
      ap (λ (o : Option ℕ). change_to (length past) c o (installed plan c case (s ∷ past))) (none_installed past (none_before c case s past none))
      ∙ ap (change_to (length past) c None) (none_installed (s ∷ past) none)

-- the progress of cases that were opened just now
pub new_ones_stand : (plan : PlanOf) (some : 2 ≤ plan.checks) (c : ℕ) (past : List Seen) (cases : List Case)
    → ((n : ℕ) (case : Case) → c ≤ n → checked_failures n case past ≡ []) → StandFrom plan c past cases (map (λ (_ : Case). no_progress) cases)
new_ones_stand plan some c past [] none = tt
new_ones_stand plan some c past (case ∷ cases) none =
    let same : c ≤ c = omega arith in
    (new_stands plan some c case past (none c case same), new_ones_stand plan some (c + 1) past cases (λ n of above. none n of (omega arith)))

-- ---- the changes of an entry

pub no_changes : (plan : PlanOf) (some : 2 ≤ plan.checks) (c : ℕ) (cases : List Case) (s : Seen) (past : List Seen)
    → ((n : ℕ) (case : Case) → c ≤ n → checked_failures n case (s ∷ past) ≡ []) → changes_at plan c cases s past ≡ []
no_changes plan some c [] s past none = refl
no_changes plan some c (case ∷ cases) s past none =
    let same : c ≤ c = omega arith in
    ap (λ (l : List Change). l ++ changes_at plan (c + 1) cases s past) (no_change plan some c case s past (none c case same))
    ∙ no_changes plan some (c + 1) cases s past (λ n of above. none n of (omega arith))

pub changes_at-append : (plan : PlanOf) (c : ℕ) (xs ys : List Case) (s : Seen) (past : List Seen) → changes_at plan c (xs ++ ys) s past ≡ changes_at plan c xs s past ++ changes_at plan (c + length xs) ys s past
changes_at-append plan c [] ys s past = ap (λ (n : ℕ). changes_at plan n ys s past) (omega arith)
changes_at-append plan c (x ∷ xs) ys s past =
    let here = change_to (length past) c (installed plan c x past) (installed plan c x (s ∷ past)) in
    let next : (c + 1) + length xs ≡ c + length (x ∷ xs) = omega arith in
    ap (λ (l : List Change). here ++ l) (changes_at-append plan (c + 1) xs ys s past)
    ∙ ap (λ (n : ℕ). here ++ (changes_at plan (c + 1) xs s past ++ changes_at plan n ys s past)) next
    ∙ sym (append_assoc here (changes_at plan (c + 1) xs s past) (changes_at plan (c + length (x ∷ xs)) ys s past))
