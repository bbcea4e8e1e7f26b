-- How many cases, candidates, versions and entries there are.
use Rattle.std.proofs.Common.{◌≡◌, ◌≤◌, ◌<◌, ℕ, suc, ◌+◌, Bool, true, false, not, ◌||◌, List, [], ◌∷◌, ◌++◌, Option, Some, None, refl, ap, length, take, arith}
use Rattle.std.specs.Prelude.{if◌then◌else◌, nat_lt}
use Rattle.std.proofs.lemmas.Bool.{ltb-true}
use Rattle.std.proofs.lemmas.List.{length-append, length-take}
use Rattle.cv_base.specs.declared.cases.Case.{Case}
use Rattle.cv_base.specs.declared.ends.FailureId.{FailureId}
use Rattle.cv_base.specs.declared.entries.Entry.{Entry}
use Rattle.cv_base.specs.declared.invariants.Invariant.{Invariant}
use Rattle.cv_base.specs.PlanOf.{PlanOf}
use Rattle.cv_histories.specs.Cases.{by_distance, candidates_at, cases, has_case, of_procedure, opened_by}
use Rattle.cv_histories.specs.declared.TheConstants.{MOST_CASES, MOST_CANDIDATES}
use Rattle.cv_histories.specs.Seen.{Seen, live_failure}
use Rattle.cv_histories.specs.Versions.{add_version, ledger, newest_of, same_table, seen_by, table}
use Rattle.cv_manager.specs.Journal.{entries_of}
use Rattle.cv_runs.specs.PatchedRun.{Table}

-- a case is opened only where there are fewer than n
opened_if : (n m : ℕ) (has less b : Bool) (case : Case) → nat_lt m n ≡ less → (has || not less) ≡ b → m ≤ n → m + length (elim b as (λ _. List Case) [ true ↦ [] | false ↦ case ∷ [] ]) ≤ n
opened_if n m has less true case is same few = omega arith
opened_if n m has true false case is same few = let below = ltb-true m n is in omega arith
opened_if n m false false false case is same few = absurd (cc same)
opened_if n m true false false case is same few = absurd (cc same)

few_opened : (plan : PlanOf) (before : List Case) (past : List Seen) (sites : List ℕ) (o : Option FailureId) → length before ≤ MOST_CASES → length before + length (opened_by plan before past sites o) ≤ MOST_CASES
few_opened plan before past sites None few = omega arith
few_opened plan before past sites (Some id) few =
    opened_if MOST_CASES (length before) (has_case before id) (nat_lt (length before) MOST_CASES) _ _ refl refl few

pub few_cases : (plan : PlanOf) (seen : List Seen) → length (cases plan seen) ≤ 64
few_cases plan [] = omega arith
few_cases plan (s ∷ past) =
    let before = cases plan past in
    let opened = opened_by plan before (s ∷ past) s.entry.sites (live_failure s.entry) in
    let few = few_opened plan before (s ∷ past) s.entry.sites (live_failure s.entry) (few_cases plan past) in
    omega (arith, length-append before opened)

few_taken : (n : ℕ) (ks : List Invariant) → length (take n ks) ≤ n
few_taken n ks = omega (arith, length-take n ks)

few_at : (n site : ℕ) (here others : List Invariant) → length others ≤ n → length (elim here as (λ _. List Invariant) [ [] ↦ others | k ∷ ks ↦ take n (by_distance site (k ∷ ks)) ]) ≤ n
few_at n site [] others few = few
few_at n site (k ∷ ks) others few = few_taken n (by_distance site (k ∷ ks))

pub few_candidates : (starts : List ℕ) (ks : List Invariant) (sites : List ℕ) → length (candidates_at starts ks sites) ≤ 64
few_candidates starts ks [] = omega arith
few_candidates starts ks (site ∷ sites) =
    few_at MOST_CANDIDATES site (of_procedure starts site ks) (candidates_at starts ks sites) (few_candidates starts ks sites)

-- one version more at most
added_if : (b : Bool) (ts : List Table) (t : Table) → (length ts ≤ length (if b then ts else ts ++ t ∷ [])) × (length (if b then ts else ts ++ t ∷ []) ≤ length ts + 1)
added_if true ts t = (omega arith, omega arith)
added_if false ts t = (omega (arith, length-append ts (t ∷ [])), omega (arith, length-append ts (t ∷ [])))

added : (ts : List Table) (t : Table) → (length ts ≤ length (add_version ts t)) × (length (add_version ts t) ≤ length ts + 1)
added ts t = added_if (same_table t (newest_of ts)) ts t

pub few_versions : (plan : PlanOf) (past : List Entry) → length (ledger plan past).versions ≤ length past + 1
few_versions plan [] = omega arith
few_versions plan (e ∷ past) =
    let before = few_versions plan past in
    let more = added (ledger plan past).versions (table plan (seen_by (ledger plan past) e)) in
    omega (arith, more.1)

pub some_version : (plan : PlanOf) (past : List Entry) → 0 < length (ledger plan past).versions
some_version plan [] = omega arith
some_version plan (e ∷ past) =
    let before = some_version plan past in
    let more = added (ledger plan past).versions (table plan (seen_by (ledger plan past) e)) in
    omega (arith, more.0)

pub seen_entries : (plan : PlanOf) (past : List Entry) → entries_of ((ledger plan past).seen) ≡ past
seen_entries plan [] = refl
seen_entries plan (e ∷ past) = ap (λ l. e ∷ l) (seen_entries plan past)

pub seen_length : (plan : PlanOf) (past : List Entry) → length ((ledger plan past).seen) ≡ length past
seen_length plan [] = refl
seen_length plan (e ∷ past) = ap suc (seen_length plan past)
