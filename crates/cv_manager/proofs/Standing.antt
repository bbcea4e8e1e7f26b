-- The progress of a case by its number.
use Rattle.std.proofs.Common.{◌≡◌, ℕ, zero, suc, ◌+◌, List, [], ◌∷◌, get_or, Some, sym, subst, arith}
use Rattle.std.specs.Prelude.{slice_get}
use Rattle.cv_base.specs.declared.cases.Case.{Case}
use Rattle.cv_base.specs.PlanOf.{PlanOf}
use Rattle.cv_histories.specs.Seen.{Seen}
use Rattle.cv_manager.specs.declared.kept.Kept.{Kept}
use Rattle.cv_manager.specs.Kept.{IsKept, past_of}
use Rattle.cv_manager.specs.ManagerOf.{ManagerOf, case_in, seen_in}
use Rattle.cv_manager.specs.Progress.{ProgressOf, Stands, StandFrom}

-- the progress of case c, which is case i of those from number n on
pub stands_at : (plan : PlanOf) (n : ℕ) (past : List Seen) (cases : List Case) (ps : List ProgressOf) → StandFrom plan n past cases ps
    → (i c : ℕ) → c ≡ n + i → (case : Case) → slice_get cases i ≡ Some case
    → (p : ProgressOf) → p ≡ get_or ps i p → Stands plan c past case p
stands_at plan n past [] ps stand i c number case at p is = absurd (cc)
stands_at plan n past (k ∷ cases) [] stand i c number case at p is = absurd stand
stands_at plan n past (k ∷ cases) (q ∷ ps) stand zero c number case at p is =
    let same : k ≡ case = cc in
    let first : n ≡ c = omega arith in
    subst (λ (p : ProgressOf). Stands plan c past case p) (sym is) (subst (λ (c : ℕ). Stands plan c past case q) first (subst (λ (k : Case). Stands plan n past k q) same stand.0))
stands_at plan n past (k ∷ cases) (q ∷ ps) stand (suc i) c number case at p is =
    stands_at plan (n + 1) past cases ps stand.1 i c (omega arith) case at p is

-- the progress of a case of a manager
pub stands_in : (k : Kept) → IsKept k → (m : ManagerOf) → record { plan = k.plan; past = past_of k } ≡ m
    → (c : ℕ) (case : Case) → case_in m c ≡ Some case
    → (p : ProgressOf) → p ≡ get_or k.progress.items c p → Stands m.plan c (seen_in m) case p
stands_in k kept m view c case at p is =
    subst (λ (m : ManagerOf). case_in m c ≡ Some case → Stands m.plan c (seen_in m) case p) view
    (λ at. subst (λ s. Stands k.plan c s case p) kept.seen (stands_at k.plan 0 k.journal k.cases.items k.progress.items kept.progress c c (omega arith) case (rw (kept.cases, kept.seen) at) p is)) at
