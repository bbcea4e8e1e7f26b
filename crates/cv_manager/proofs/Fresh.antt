-- A case that is not there yet has no checked failures.
use Rattle.std.proofs.Common.{◌≡◌, ◌≤◌, ℕ, ◌+◌, Bool, true, false, ◌&&◌, ◌||◌, cond, List, [], ◌∷◌, refl, ◌∙◌, length, arith}
use Rattle.std.specs.Prelude.{◌==◌}
use Rattle.std.specs.List.{AllByRecursion, list_any}
use Rattle.std.proofs.lemmas.Bool.Decides.{nat_tests}
use Rattle.std.proofs.lemmas.List.{length-append}
use Rattle.std.proofs.lemmas.List.Folds.{list_any-append}
use Rattle.cv_base.specs.declared.cases.Case.{Case}
use Rattle.cv_base.specs.declared.entries.Entry.{Entry}
use Rattle.cv_base.specs.declared.invariants.Invariant.{Invariant}
use Rattle.cv_base.specs.PlanOf.{PlanOf}
use Rattle.cv_histories.specs.Cases.{cases, opened_by}
use Rattle.cv_histories.specs.Classes.{checked_failures, is_check_of}
use Rattle.cv_histories.specs.Seen.{Seen, is_failure, last_version, live_failure, table_at}
use Rattle.cv_histories.specs.Versions.{case_table, checks_from, ledger, seen_by, table, tables_from}
use Rattle.cv_manager.proofs.EachVersion.{all_added, all_of, at_version, of_case}
use Rattle.cv_runs.specs.PatchedRun.{Table}

-- a table has no check of a case from number n on
abbrev NoChecksFrom : ℕ → Table → Type 0
NoChecksFrom n t = (c : ℕ) → n ≤ c → list_any (is_check_of c) t ≡ false

rises : (n m : ℕ) (t : Table) → n ≤ m → NoChecksFrom n t → NoChecksFrom m t
rises n m t le h c above = h c (omega arith)

apart : (c d : ℕ) (b : Bool) → c + 1 ≤ d → b ≡ false → ((c == d) || b) ≡ false
apart c d b above h = grind (arith, nat_tests)

neither : (a b : Bool) → a ≡ false → b ≡ false → (a || b) ≡ false
neither true b p q = p
neither false b p q = q

own_checks : (c x : ℕ) (ks : List Invariant) → NoChecksFrom (c + 1) (checks_from c x ks)
own_checks c x [] d above = refl
own_checks c x (k ∷ ks) d above = apart c d _ above (own_checks c (x + 1) ks d above)

module _ (plan : PlanOf) where
  module _ (past : List Seen) where
    own_patches : (c : ℕ) (case : Case) → NoChecksFrom (c + 1) (case_table plan c case past)
    own_patches c case =
        of_case (NoChecksFrom (c + 1)) plan c case past (own_checks c 0 case.candidates) (λ d above. refl) (λ j k a d above. refl)

    no_checks_from : (c : ℕ) (list : List Case) → NoChecksFrom (c + length list) (tables_from plan c list past)
    no_checks_from c [] d above = refl
    no_checks_from c (case ∷ rest) d above =
        list_any-append (is_check_of d) (case_table plan c case past) (tables_from plan (c + 1) rest past)
        ∙ neither _ _ (own_patches c case d (omega arith)) (no_checks_from (c + 1) rest d (omega arith))

    table_has_none : NoChecksFrom (length (cases plan past)) (table plan past)
    table_has_none d above = no_checks_from 0 (cases plan past) d (omega arith)

    more_cases : (s : Seen) → length (cases plan past) ≤ length (cases plan (s ∷ past))
    more_cases s =
        omega (arith, length-append (cases plan past) (opened_by plan (cases plan past) (s ∷ past) s.entry.sites (live_failure s.entry)))

  versions_have_none : (past : List Entry) → AllByRecursion (NoChecksFrom (length (cases plan ((ledger plan past).seen)))) (ledger plan past).versions
  versions_have_none [] = ((λ d above. refl), tt)
  versions_have_none (e ∷ past) =
      let l = ledger plan past in
      let seen = seen_by l e in
      all_added (NoChecksFrom (length (cases plan seen))) l.versions (table plan seen)
      (all_of _ _ l.versions (λ t. rises _ _ t (more_cases l.seen _)) (versions_have_none past))
      (table_has_none seen)

  last_has_none : (past : List Entry) (e : Entry) → NoChecksFrom (length (cases plan ((ledger plan past).seen))) (table_at (ledger plan past).versions (last_version e.adopted))
  last_has_none past e =
      at_version (NoChecksFrom (length (cases plan ((ledger plan past).seen)))) (λ d above. refl) (ledger plan past).versions (last_version e.adopted) (versions_have_none past)

  seen_have_none : (past : List Entry) → AllByRecursion (λ (s : Seen). NoChecksFrom (length (cases plan ((ledger plan past).seen))) s.last) (ledger plan past).seen
  seen_have_none [] = tt
  seen_have_none (e ∷ past) =
      let l = ledger plan past in
      let last = table_at l.versions (last_version e.adopted) in
      let more = more_cases l.seen (record { entry = e; last = last }) in
      (rises _ _ last more (last_has_none past e), all_of _ _ l.seen (λ s. rises _ _ s.last more) (seen_have_none past))

passed_over : (a b : Bool) (s : Seen) (more : List Seen) → b ≡ false → more ≡ [] → cond (a && b) (s ∷ more) more ≡ []
passed_over true true s more h none = absurd (cc h)
passed_over true false s more h none = none
passed_over false b s more h none = none

unchecked : (n c : ℕ) (case : Case) (seen : List Seen) → n ≤ c → AllByRecursion (λ (s : Seen). NoChecksFrom n s.last) seen → checked_failures c case seen ≡ []
unchecked n c case [] le all = refl
unchecked n c case (s ∷ seen) le all =
    passed_over (is_failure case.id (live_failure s.entry)) (list_any (is_check_of c) s.last) s (checked_failures c case seen) (all.0 c le) (unchecked n c case seen le all.1)

pub no_checked_failures : (plan : PlanOf) (past : List Entry) (c : ℕ) (case : Case) → length (cases plan ((ledger plan past).seen)) ≤ c → checked_failures c case ((ledger plan past).seen) ≡ []
no_checked_failures plan past c case fresh = unchecked _ c case (ledger plan past).seen fresh (seen_have_none plan past)

pub no_checked_failures_with : (plan : PlanOf) (past : List Entry) (e : Entry) (c : ℕ) (case : Case) → length (cases plan ((ledger plan past).seen)) ≤ c → checked_failures c case (seen_by (ledger plan past) e) ≡ []
no_checked_failures_with plan past e c case fresh =
    unchecked _ c case (seen_by (ledger plan past) e) fresh (last_has_none plan past e, seen_have_none plan past)
