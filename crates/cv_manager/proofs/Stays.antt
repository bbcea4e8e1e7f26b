-- One more entry: what was decided of a case stays, and what the last checked failure that counts
-- decides (docs/REPAIR.md, "Classes" to "Installation").
use Rattle.std.proofs.Common.{◌≡◌, ◌≤◌, ℕ, Bool, true, false, cond, List, [], ◌∷◌, ◌∙◌, length, reverse, take, Option, None, refl, sym, ap, arith}
use Rattle.std.specs.Prelude.{nat_le}
use Rattle.std.proofs.lemmas.Bool.Decides.{nat_tests}
use Rattle.std.proofs.lemmas.List.{length-reverse, reverse-append, take-append-le, take_all}
use Rattle.cv_base.specs.declared.cases.Case.{Case}
use Rattle.cv_base.specs.declared.cases.Repair.{Repair}
use Rattle.cv_base.specs.PlanOf.{PlanOf}
use Rattle.cv_histories.specs.Classes.{checked_failures, first_checked, is_checked_failure, is_decided}
use Rattle.cv_histories.specs.Installed.{again, best_repair, installed}
use Rattle.cv_histories.specs.Repairs.{chosen, judged_from, repairs_for, repairs_of}
use Rattle.cv_histories.specs.Seen.{Seen}
use Rattle.cv_manager.specs.Posting.{IsDecidedNow, PostingOf, all_of}

-- a list with one more element in front of it, or not
module _ (n : ℕ) (s : Seen) (xs : List Seen) where
  enough_stays : (b : Bool) → nat_le n (length xs) ≡ true → nat_le n (length (cond b (s ∷ xs) xs)) ≡ true
  enough_stays true h = grind (arith, nat_tests)
  enough_stays false h = h

  first_stay : (b : Bool) → n ≤ length xs → take n (reverse (cond b (s ∷ xs) xs)) ≡ take n (reverse xs)
  first_stay true h =
      let within : n ≤ length (reverse xs) = omega (arith, length-reverse xs) in
      ap (take n) (reverse-append (s ∷ []) xs) ∙ take-append-le n (reverse xs) (s ∷ []) within
  first_stay false h = refl

  -- the one that makes them enough
  is_counted : (b : Bool) → nat_le n (length xs) ≡ false → nat_le n (length (cond b (s ∷ xs) xs)) ≡ true → b ≡ true
  is_counted true before now = refl
  is_counted false before now = absurd (grind (arith, nat_tests))

  as_many : (b : Bool) → nat_le n (length xs) ≡ false → nat_le n (length (cond b (s ∷ xs) xs)) ≡ true → length (cond b (s ∷ xs) xs) ≡ n
  as_many true before now = grind (arith, nat_tests)
  as_many false before now = absurd (grind (arith, nat_tests))

module _ (plan : PlanOf) (c : ℕ) (case : Case) (s : Seen) (past : List Seen) where
  pub decided_stays : is_decided plan c case past ≡ true → is_decided plan c case (s ∷ past) ≡ true
  decided_stays = enough_stays plan.checks s (checked_failures c case past) (is_checked_failure c case s)

  pub first_checked_stays : is_decided plan c case past ≡ true → first_checked plan c case (s ∷ past) ≡ first_checked plan c case past
  first_checked_stays h =
      let enough : plan.checks ≤ length (checked_failures c case past) = grind (arith, nat_tests) in
      first_stay plan.checks s (checked_failures c case past) (is_checked_failure c case s) enough

-- the repairs of a case that is decided
pub repairs_when_decided : (plan : PlanOf) (c : ℕ) (case : Case) (past : List Seen) → is_decided plan c case past ≡ true → repairs_of plan c case past ≡ repairs_for plan.image case.candidates (chosen (judged_from c 0 (first_checked plan c case past) case.candidates))
repairs_when_decided plan c case past h =
    ap (λ (b : Bool). elim b as (λ _. List Repair) [ true ↦ repairs_for plan.image case.candidates (chosen (judged_from c 0 (first_checked plan c case past) case.candidates)) | false ↦ [] ]) h

module _ (plan : PlanOf) (c : ℕ) (case : Case) (s : Seen) (past : List Seen) where
  pub repairs_stay : is_decided plan c case past ≡ true → repairs_of plan c case (s ∷ past) ≡ repairs_of plan c case past
  repairs_stay h =
      repairs_when_decided plan c case (s ∷ past) (decided_stays plan c case s past h)
      ∙ ap (λ seen. repairs_for plan.image case.candidates (chosen (judged_from c 0 seen case.candidates))) (first_checked_stays plan c case s past h)
      ∙ sym (repairs_when_decided plan c case past h)

  -- which repair is installed, by whether the case is decided with the entry, and was before it
  installed_by : Bool → Bool → Option ℕ
  installed_by now before = elim now as (λ _. Option ℕ) [
    | false ↦ None
    | true ↦ elim before as (λ _. Option ℕ) [
      | false ↦ best_repair c case (repairs_of plan c case (s ∷ past)) (s ∷ past)
      | true ↦ again plan c case s past (installed plan c case past)
    ]
  ]

  pub installed_again : is_decided plan c case past ≡ true → installed plan c case (s ∷ past) ≡ again plan c case s past (installed plan c case past)
  unfolding installed_by
  installed_again h =
      ap (λ now. installed_by now (is_decided plan c case past)) (decided_stays plan c case s past h) ∙ ap (installed_by true) h

-- the entry is the last checked failure that counts
module _ (p : PostingOf) (c : ℕ) (case : Case) (h : IsDecidedNow p c case) where
  pub new_is_checked : is_checked_failure c case p.new ≡ true
  new_is_checked = is_counted p.plan.checks p.new (checked_failures c case p.past) (is_checked_failure c case p.new) h.before h.now

  pub checked_now : length (checked_failures c case (all_of p)) ≡ p.plan.checks
  checked_now = as_many p.plan.checks p.new (checked_failures c case p.past) (is_checked_failure c case p.new) h.before h.now

  all_checked : checked_failures c case (all_of p) ≡ p.new ∷ checked_failures c case p.past
  all_checked = ap (λ b. cond b (p.new ∷ checked_failures c case p.past) (checked_failures c case p.past)) new_is_checked

  pub first_checked_now : first_checked p.plan c case (all_of p) ≡ reverse (p.new ∷ checked_failures c case p.past)
  first_checked_now =
      let all : length (reverse (checked_failures c case (all_of p))) ≤ p.plan.checks = omega (arith, length-reverse (checked_failures c case (all_of p)), checked_now) in
      take_all p.plan.checks (reverse (checked_failures c case (all_of p))) all ∙ ap reverse all_checked
