-- An office's first state, and its passes.
use Rattle.std.proofs.Common.{◌≡◌, ◌≤◌, ◌<◌, ◌+◌, ℕ, zero, suc, Bool, true, false, List, [], ◌∷◌, length, refl, ap, ⊎_elim, eq-eqb, le-ltb, arith}
use Rattle.std.specs.Prelude.{◌==◌, if◌then◌else◌}
use Rattle.std.specs.List.{range_with_len}
use Rattle.std.proofs.lemmas.Bool.{cases_eq, cases_lt, lt-ltb, ne_eqb}
use Rattle.std.proofs.lemmas.List.FromFn.{length-range_with_len}
use Rattle.cv_base.specs.declared.entries.Entry.{Entry}
use Rattle.cv_base.specs.PlanOf.{IsPlan, PlanOf}
use Rattle.cv_desk.proofs.Noting.{few_versions}
use Rattle.cv_desk.specs.Openings.{SettingOf, opening_of, versions_of, workers_of}
use Rattle.cv_histories.specs.Legal.{IsLegal}
use Rattle.cv_histories.specs.Runs.{Run, runs}
use Rattle.cv_histories.specs.World.{numbers_from}
use Rattle.cv_laws.specs.RoundStatements.{RunsAreCounted}
use Rattle.cv_laws.specs.Statements.{LegalIsFew}
use Rattle.cv_laws.specs.VersionStatements.{SomeVersion}
use Rattle.cv_office.specs.Told.{IsStart}
use Rattle.cv_rule.specs.Counts.{below, if_so, times}

-- ---- each worker once

below_yes : (n bound : ℕ) → n < bound → below n bound ≡ 1
below_yes n bound less = ap (λ (b : Bool). if_so b 1) (lt-ltb n bound less)

below_no : (n bound : ℕ) → bound ≤ n → below n bound ≡ 0
below_no n bound more = ap (λ (b : Bool). if_so b 1) (le-ltb n bound more)

one_more : (w a : ℕ) → if_so (a == w) 1 + below w a ≡ below w (a + 1)
one_more w a =
    ⊎_elim
    (λ same. omega (arith, ap (λ (b : Bool). if_so b 1) (eq-eqb a w same), below_no w a (omega arith), below_yes w (a + 1) (omega arith)))
    (λ other.
    ⊎_elim (λ less. omega (arith, ap (λ (b : Bool). if_so b 1) (ne_eqb a w other), below_yes w a less, below_yes w (a + 1) (omega arith)))
    (λ more. omega (arith, ap (λ (b : Bool). if_so b 1) (ne_eqb a w other), below_no w a more, below_no w (a + 1) (apart other more)))
    (cases_lt w a))
    (cases_eq a w)
  where
    apart : (a ≡ w → ⊥) → a ≤ w → a + 1 ≤ w
    apart differ most = ⊎_elim (λ less. omega arith) (λ least. absurd (differ (omega arith))) (cases_lt a w)

times_range : (w a n : ℕ) → times w (range_with_len a n) + below w a ≡ below w (a + n)
times_range w a zero =
    let end : a ≡ a + 0 = omega arith in
    omega (arith, ap (λ (k : ℕ). below w k) end)
times_range w a (suc n) =
    let here = one_more w a in
    let rest = times_range w (a + 1) n in
    let end : a + 1 + n ≡ a + suc n = omega arith in
    let same : below w (a + 1 + n) ≡ below w (a + suc n) = ap (λ (k : ℕ). below w k) end in
    omega arith

each_once : (n w : ℕ) → times w (range_with_len 0 n) ≡ below w n
each_once n w =
    let end : 0 + n ≡ n = omega arith in
    let same : below w (0 + n) ≡ below w n = ap (λ (k : ℕ). below w k) end in
    omega (arith, times_range w 0 n, below_no w 0 (omega arith))

-- ---- few runs, and few versions

numbers_by : (b : Bool) (n k : ℕ) (rest : List ℕ) → length rest ≤ k → length (if b then n ∷ rest else rest) ≤ suc k
numbers_by true n k rest few = omega arith
numbers_by false n k rest few = omega arith

few_numbers : (n : ℕ) (rs : List Run) (round : ℕ) → length (numbers_from n rs round) ≤ length rs
few_numbers n [] round = omega arith
few_numbers n (r ∷ rs) round = numbers_by (r.round == round) n (length rs) (numbers_from (n + 1) rs round) (few_numbers (n + 1) rs round)

-- the table's first state
pub starts : RunsAreCounted → SomeVersion → LegalIsFew → (s : SettingOf) → IsPlan s.plan → IsLegal s.plan s.past → IsStart (opening_of s) (versions_of s) (workers_of s)
starts counted some_version few_entries s plan legal =
    let all = counted s.plan s.plan.rounds refl in
    let few = plan.few_runs in
    let workers = plan.few_workers in
    let runs_few = few_numbers 0 (runs s.plan) s.round in
    let some = some_version s.plan s.past in
    record {
      newest = omega arith;
      most = omega (arith, few_versions s.plan s.past, few_entries s.plan s.past legal);
      each_once = each_once s.plan.workers;
      all = length-range_with_len 0 s.plan.workers;
      small = omega arith;
    }
