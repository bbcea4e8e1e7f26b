-- A version of a history's tables enforces one repair of a case at most.
use Rattle.std.proofs.Common.{◌≡◌, ◌≤◌, ℕ, ◌+◌, Bool, true, false, ◌&&◌, ◌||◌, List, [], ◌∷◌, ◌++◌, Option, refl, sym, ◌∙◌, arith}
use Rattle.std.specs.Prelude.{◌==◌}
use Rattle.std.specs.List.{AllByRecursion, list_any}
use Rattle.std.proofs.lemmas.Bool.Decides.{nat_tests}
use Rattle.std.proofs.lemmas.List.Folds.{list_any-append}
use Rattle.cv_base.specs.declared.cases.Case.{Case}
use Rattle.cv_base.specs.declared.entries.Entry.{Entry}
use Rattle.cv_base.specs.declared.invariants.Invariant.{Invariant}
use Rattle.cv_base.specs.declared.patches.Action.{Action}
use Rattle.cv_base.specs.declared.patches.Patch.TheVariants.{Enforce}
use Rattle.cv_base.specs.PlanOf.{PlanOf}
use Rattle.cv_histories.specs.Cases.{cases}
use Rattle.cv_histories.specs.Scores.{is_enforce_of}
use Rattle.cv_histories.specs.Seen.{Seen, table_at}
use Rattle.cv_histories.specs.Versions.{case_table, checks_from, ledger, seen_by, table, tables_from}
use Rattle.cv_manager.specs.Journal.{EnforcesOne}
use Rattle.cv_manager.proofs.EachVersion.{all_added, at_version, of_case}
use Rattle.cv_runs.specs.PatchedRun.{Table}

-- a table enforces one repair of a case at most, and of case c alone
record OneOf (c : ℕ) (t : Table) : Type 0 where
  one : EnforcesOne t
  alone : (d j : ℕ) → list_any (is_enforce_of d j) t ≡ true → d ≡ c

-- a table enforces one repair of a case at most, and none of a case below c
record OneFrom (c : ℕ) (t : Table) : Type 0 where
  one : EnforcesOne t
  from : (d j : ℕ) → list_any (is_enforce_of d j) t ≡ true → c ≤ d

no_enforce : (c x : ℕ) (ks : List Invariant) (d j : ℕ) → list_any (is_enforce_of d j) (checks_from c x ks) ≡ false
no_enforce c x [] d j = refl
no_enforce c x (k ∷ ks) d j = no_enforce c (x + 1) ks d j

of_checks : (c x : ℕ) (ks : List Invariant) → OneOf c (checks_from c x ks)
of_checks c x ks = record {
  one = λ d i j p q. cc (no_enforce c x ks d i);
  alone = λ d j p. cc (no_enforce c x ks d j);
}

of_nothing : (c : ℕ) → OneOf c []
of_nothing c = record { one = λ d i j p q. cc; alone = λ d j p. cc }

compared : (c d i j : ℕ) → (((c == d) && (i == j)) || false) ≡ true → (d ≡ c) × (j ≡ i)
compared c d i j h = grind (arith, nat_tests)

of_repair : (c j : ℕ) (k : Invariant) (a : Action) → OneOf c (Enforce c j k a ∷ [])
of_repair c j k a = record {
  one = λ d x y p q. (compared c d j x p).1 ∙ sym (compared c d j y q).1;
  alone = λ d x p. (compared c d j x p).0;
}

either : (A : Type 0) (a b : Bool) → (a || b) ≡ true → (a ≡ true → A) → (b ≡ true → A) → A
either A true b p first second = first refl
either A false b p first second = second p

apart : (c d : ℕ) → d ≡ c → c + 1 ≤ d → ⊥
apart c d e le = omega arith

-- the patches of a case in front of those of later cases
in_front : (c : ℕ) (t ts : Table) → OneOf c t → OneFrom (c + 1) ts → OneFrom c (t ++ ts)
in_front c t ts here rest =
    let split = λ (A : Type 0) (d j : ℕ) (p : list_any (is_enforce_of d j) (t ++ ts) ≡ true). either A (list_any (is_enforce_of d j) t) (list_any (is_enforce_of d j) ts) (sym (list_any-append (is_enforce_of d j) t ts) ∙ p) in
    record {
      one = λ d i j p q.
          split (i ≡ j) d i p
          (λ x. split (i ≡ j) d j q (here.one d i j x) (λ y. absurd (apart c d (here.alone d i x) (rest.from d j y))))
          (λ x. split (i ≡ j) d j q (λ y. absurd (apart c d (here.alone d j y) (rest.from d i x))) (rest.one d i j x));
      from = λ d j p.
          split (c ≤ d) d j p
          (λ x. let e = here.alone d j x in omega arith)
          (λ x. let f = rest.from d j x in omega arith);
    }

module _ (plan : PlanOf) (past : List Seen) where
  one_of_case : (c : ℕ) (case : Case) → OneOf c (case_table plan c case past)
  one_of_case c case = of_case (OneOf c) plan c case past (of_checks c 0 case.candidates) (of_nothing c) (of_repair c)

  one_from : (c : ℕ) (list : List Case) → OneFrom c (tables_from plan c list past)
  one_from c [] = record { one = λ d i j p q. cc; from = λ d j p. cc }
  one_from c (case ∷ rest) = in_front c _ _ (one_of_case c case) (one_from (c + 1) rest)

  pub table_enforces_one : EnforcesOne (table plan past)
  table_enforces_one = (one_from 0 (cases plan past)).one

empty_enforces_one : EnforcesOne []
empty_enforces_one = (of_nothing 0).one

pub all_enforce_one : (plan : PlanOf) (past : List Entry) → AllByRecursion EnforcesOne (ledger plan past).versions
all_enforce_one plan [] = (empty_enforces_one, tt)
all_enforce_one plan (e ∷ past) =
    all_added EnforcesOne _ _ (all_enforce_one plan past) (table_enforces_one plan (seen_by (ledger plan past) e))

pub enforces_one : (plan : PlanOf) (past : List Entry) (version : Option ℕ) → EnforcesOne (table_at (ledger plan past).versions version)
enforces_one plan past version = at_version EnforcesOne empty_enforces_one _ version (all_enforce_one plan past)
