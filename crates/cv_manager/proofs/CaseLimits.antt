-- What each case of a manager keeps: its candidates are invariants at points, 64 at most, and it has at
-- most six repairs for each.
use Rattle.std.proofs.Common.{◌≡◌, ◌<◌, ◌≤◌, ◌*◌, ℕ, zero, suc, Bool, true, false, List, [], ◌∷◌, length, get_or, Option, Some, sym, ap, ◌∙◌, subst, arith}
use Rattle.std.proofs.lemmas.Option.{slice_get-get_or}
use Rattle.std.specs.Prelude.{slice_get}
use Rattle.std.specs.List.{AllByRecursion}
use Rattle.cv_base.specs.declared.cases.Case.{Case}
use Rattle.cv_base.specs.declared.cases.Repair.{Repair}
use Rattle.cv_base.specs.PlanOf.{PlanOf}
use Rattle.cv_histories.specs.Cases.{cases}
use Rattle.cv_histories.specs.Classes.{first_checked, is_decided}
use Rattle.cv_histories.specs.Repairs.{repairs_of}
use Rattle.cv_histories.specs.Seen.{Seen}
use Rattle.cv_manager.proofs.FewRepairs.{few_repairs}
use Rattle.cv_manager.specs.declared.kept.Kept.{Kept}
use Rattle.cv_manager.specs.Kept.{IsKept, past_of}
use Rattle.cv_manager.specs.ManagerOf.{ManagerOf, case_in, cases_in}
use Rattle.cv_manager.specs.Tables.{IsCase}

at_place : {X : Type 0} (P : X → Type 0) (xs : List X) → AllByRecursion P xs → (i : ℕ) (x : X) → slice_get xs i ≡ Some x → P x
at_place P [] all i x at = absurd (cc)
at_place P (y ∷ ys) all zero x at = let same : y ≡ x = cc in subst P same all.0
at_place P (y ∷ ys) all (suc i) x at = at_place P ys all.1 i x at

case_keeps : (k : Kept) → IsKept k → (m : ManagerOf) → record { plan = k.plan; past = past_of k } ≡ m
    → (c : ℕ) (case : Case) → case_in m c ≡ Some case → IsCase m.plan.image case
case_keeps k kept m view c case at =
    subst (λ (m : ManagerOf). case_in m c ≡ Some case → IsCase m.plan.image case) view
    (λ at. at_place (IsCase k.plan.image) k.cases.items kept.each c case (rw (kept.cases, kept.seen) at)) at

-- the case that is read
case_read : (k : Kept) → IsKept k → (m : ManagerOf) → record { plan = k.plan; past = past_of k } ≡ m
    → (c : ℕ) (case : Case) → case ≡ get_or k.cases.items c case → c < length (cases_in m) → case_in m c ≡ Some case
case_read k kept m view c case is within =
    subst (λ (m : ManagerOf). c < length (cases_in m) → case_in m c ≡ Some case) view
    (λ within.
    let same = kept.cases ∙ ap (cases k.plan) kept.seen in
    ap (λ (xs : List Case). slice_get xs c) (sym same)
    ∙ slice_get-get_or k.cases.items c case (omega (arith, within, ap length same))
    ∙ ap Some (sym is)) within

pub case_read_keeps : (k : Kept) → IsKept k → (m : ManagerOf) → record { plan = k.plan; past = past_of k } ≡ m
    → (c : ℕ) (case : Case) → case ≡ get_or k.cases.items c case → c < length (cases_in m) → IsCase m.plan.image case
case_read_keeps k kept m view c case is within = case_keeps k kept m view c case (case_read k kept m view c case is within)

decided_or_not : (b : Bool) (repairs : List Repair) (n : ℕ) → length repairs ≤ n → length (elim b as (λ _. List Repair) [ true ↦ repairs | false ↦ [] ]) ≤ n
decided_or_not true repairs n few = few
decided_or_not false repairs n few = omega arith

pub few_in_case : (plan : PlanOf) (c : ℕ) (case : Case) (past : List Seen) → IsCase plan.image case → length (repairs_of plan c case past) ≤ 384
few_in_case plan c case past keeps =
    decided_or_not (is_decided plan c case past) _ 384
    (omega (arith, few_repairs c (first_checked plan c case past) plan.image case.candidates keeps.kinds, keeps.few))
