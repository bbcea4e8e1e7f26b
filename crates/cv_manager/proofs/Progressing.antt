-- The progress of cases, case by case.
use Rattle.std.proofs.Common.{◌≡◌, ◌≤◌, ◌<◌, ℕ, zero, suc, ◌+◌, Bool, true, false, cond, List, [], ◌∷◌, length, drop, get_or, refl, arith}
use Rattle.std.specs.Prelude.{nat_le}
use Rattle.std.proofs.lemmas.Bool.Decides.{nat_tests}
use Rattle.std.proofs.lemmas.List.{at_drop_all}
use Rattle.std.proofs.lemmas.List.Sums.{length-filter, count_by-le-length}
use mir.Val.{bool_byte}
use Rattle.cv_base.specs.declared.cases.Case.{Case}
use Rattle.cv_base.specs.PlanOf.{PlanOf}
use Rattle.cv_histories.specs.Classes.{checked_failures, is_checked_failure, is_decided}
use Rattle.cv_histories.specs.Seen.{Seen}
use Rattle.cv_manager.specs.Progress.{ProgressOf, Stands, StandFrom}

not_enough : (n m : ℕ) → m < n → nat_le n m ≡ false
not_enough n m h = grind (arith, nat_tests)

pub byte_of_test : (b : Bool) → bool_byte b ≤ 1
byte_of_test true = omega arith
byte_of_test false = omega arith

module _ (plan : PlanOf) (past : List Seen) where
  pub as_many_progress : (c : ℕ) (cases : List Case) (ps : List ProgressOf) → StandFrom plan c past cases ps → length ps ≡ length cases
  as_many_progress c [] [] h = refl
  as_many_progress c [] (p ∷ ps) h = absurd h
  as_many_progress c (case ∷ cases) [] h = absurd h
  as_many_progress c (case ∷ cases) (p ∷ ps) h = omega (arith, as_many_progress (c + 1) cases ps h.1)

  pub stands_at : (c : ℕ) (cases : List Case) (ps : List ProgressOf) (i : ℕ) (d : Case) (e : ProgressOf) → StandFrom plan c past cases ps → i < length cases → Stands plan (c + i) past (get_or cases i d) (get_or ps i e)
  stands_at c [] ps i d e h within = absurd (omega arith)
  stands_at c (case ∷ cases) [] i d e h within = absurd h
  stands_at c (case ∷ cases) (p ∷ ps) zero d e h within = let same : c + 0 ≡ c = omega arith in rw same h.0
  stands_at c (case ∷ cases) (p ∷ ps) (suc i) d e h within =
      let next : c + suc i ≡ (c + 1) + i = omega arith in
      rw next (stands_at (c + 1) cases ps i d e h.1 (omega arith))

  -- the case and the progress that were read at a place
  pub stands_as_read : (cases : List Case) (ps : List ProgressOf) (i : ℕ) (case : Case) (p : ProgressOf) → case ≡ get_or cases i case → p ≡ get_or ps i p → i < length cases → StandFrom plan 0 past cases ps → Stands plan i past case p
  stands_as_read cases ps i case p read read_too within h =
      let none : 0 + i ≡ i = omega arith in
      let at = rw none at (stands_at 0 cases ps i case p h within) in
      rw (← read, ← read_too) at at

  -- after the last case
  pub none_left : (i : ℕ) (cases : List Case) → length cases ≤ i → StandFrom plan i past (drop i cases) []
  none_left i cases end =
      let none : drop i cases ≡ [] = at_drop_all (λ (l : List Case). l) cases i end in
      rw none tt

-- one more entry, and the checked failures with it
module _ (plan : PlanOf) (c : ℕ) (case : Case) (s : Seen) (past : List Seen) where
  counted_or_not : (b : Bool) (xs : List Seen) → length (cond b (s ∷ xs) xs) ≡ length xs + bool_byte b
  counted_or_not true xs = omega arith
  counted_or_not false xs = omega arith

  -- their number, where `before` was their number and `more` says whether the entry is one
  pub checked_more : (before more : ℕ) → before ≡ length (checked_failures c case past) → more ≡ bool_byte (is_checked_failure c case s) → before + more ≡ length (checked_failures c case (s ∷ past))
  checked_more before more was is = omega (arith, counted_or_not (is_checked_failure c case s) (checked_failures c case past))

  pub few_checked : length (checked_failures c case past) ≤ length past
  few_checked = omega (arith, length-filter (is_checked_failure c case) past, count_by-le-length (is_checked_failure c case) past)

  pub not_decided : (checked checks : ℕ) → checked ≡ length (checked_failures c case (s ∷ past)) → checks ≡ plan.checks → checked < checks → is_decided plan c case (s ∷ past) ≡ false
  not_decided checked checks is as_planned fewer = not_enough _ _ (omega arith)
