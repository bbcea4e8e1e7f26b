-- The numbers of a round's runs lie side by side, behind those of the rounds before it.
use Rattle.std.proofs.Common.{◌≡◌, ◌≤◌, ◌<◌, ◌+◌, ℕ, zero, suc, List, [], ◌∷◌, ◌++◌, length, map, take, get_or, refl, sym, ap, ◌∙◌, eq-eqb, arith}
use Rattle.std.specs.Prelude.{◌==◌, ◌≢◌}
use Rattle.std.specs.List.{range_with_len}
use Rattle.std.proofs.lemmas.Bool.{cond-false, cond-true, ne_eqb}
use Rattle.std.proofs.lemmas.List.{append-nil}
use Rattle.std.proofs.lemmas.List.Sums.{sum_by-cons}
use Rattle.cv_base.specs.declared.plan.Mode.{Mode}
use Rattle.cv_base.specs.declared.plan.Round.{Round}
use Rattle.cv_base.specs.PlanOf.{PlanOf, runs_of}
use Rattle.cv_histories.specs.Runs.{Run, runs, runs_from}
use Rattle.cv_histories.specs.World.{numbers_from, numbers_of}
use Rattle.cv_laws.specs.RoundStatements.{RunsAreCounted}

-- the runs of a round
abbrev runs_in : ℕ → Mode → List (List ℕ) → List Run
runs_in k mode inputs = map (λ (input : List ℕ). record { round = k; mode = mode; input = input }) inputs

-- the numbers of a round begin with those of its runs
with_round : (n k : ℕ) (mode : Mode) (inputs : List (List ℕ)) (rest : List Run)
    → numbers_from n (runs_in k mode inputs ++ rest) k ≡ range_with_len n (length inputs) ++ numbers_from (n + length inputs) rest k
with_round n k mode [] rest = ap (λ m. numbers_from m rest k) (omega arith)
with_round n k mode (i ∷ inputs) rest =
    let later = numbers_from (n + 1) (runs_in k mode inputs ++ rest) k in
    let next : n + 1 + length inputs ≡ n + suc (length inputs) = omega arith in
    cond-true (k == k) (n ∷ later) later (eq-eqb k k refl)
    ∙ ap (λ l. n ∷ l) (with_round (n + 1) k mode inputs rest ∙ ap (λ m. range_with_len (n + 1) (length inputs) ++ numbers_from m rest k) next)

-- those of another round pass them over
past_round : (n j k : ℕ) (mode : Mode) (inputs : List (List ℕ)) (rest : List Run) → j ≢ k
    → numbers_from n (runs_in j mode inputs ++ rest) k ≡ numbers_from (n + length inputs) rest k
past_round n j k mode [] rest differ = ap (λ m. numbers_from m rest k) (omega arith)
past_round n j k mode (i ∷ inputs) rest differ =
    let later = numbers_from (n + 1) (runs_in j mode inputs ++ rest) k in
    let next : n + 1 + length inputs ≡ n + suc (length inputs) = omega arith in
    cond-false (j == k) (n ∷ later) later (ne_eqb j k differ)
    ∙ past_round (n + 1) j k mode inputs rest differ
    ∙ ap (λ m. numbers_from m rest k) next

-- a round has no run behind it
none_behind : (n j k : ℕ) (rounds : List Round) → k < j → numbers_from n (runs_from j rounds) k ≡ []
none_behind n j k [] before = refl
none_behind n j k (r ∷ rounds) before =
    past_round n j k r.mode r.inputs (runs_from (j + 1) rounds) (λ (same : j ≡ k). omega arith) ∙ none_behind (n + length r.inputs) (j + 1) k rounds (omega arith)

-- the numbers of the round at place i, where the rounds are numbered from j on and the runs from n on
numbers_at : (n j i k : ℕ) (rounds : List Round) (r : Round) → k ≡ j + i → i < length rounds → r ≡ get_or rounds i r
    → numbers_from n (runs_from j rounds) k ≡ range_with_len (n + runs_of (take i rounds)) (length r.inputs)
numbers_at n j i k [] r at within is = absurd (omega arith)
numbers_at n j zero k (x ∷ rounds) r at within is =
    let here : k ≡ j = omega arith in
    let first : n ≡ n + 0 = omega arith in
    ap (numbers_from n (runs_from j (x ∷ rounds))) here
    ∙ with_round n j x.mode x.inputs (runs_from (j + 1) rounds)
    ∙ ap (λ l. range_with_len n (length x.inputs) ++ l) (none_behind (n + length x.inputs) (j + 1) j rounds (omega arith))
    ∙ append-nil (range_with_len n (length x.inputs))
    ∙ ap (λ (y : Round). range_with_len n (length y.inputs)) (sym is)
    ∙ ap (λ m. range_with_len m (length r.inputs)) first
numbers_at n j (suc i) k (x ∷ rounds) r at within is =
    let sum = sum_by-cons (λ (y : Round). length y.inputs) x (take i rounds) in
    let all : n + length x.inputs + runs_of (take i rounds) ≡ n + runs_of (take (suc i) (x ∷ rounds)) = omega (arith, sum) in
    past_round n j k x.mode x.inputs (runs_from (j + 1) rounds) (λ (same : j ≡ k). omega arith)
    ∙ numbers_at (n + length x.inputs) (j + 1) i k rounds r (omega arith) (omega arith) is
    ∙ ap (λ m. range_with_len m (length r.inputs)) all

-- the runs up to a round are among all
within_at : (i : ℕ) (rounds : List Round) (r : Round) → i < length rounds → r ≡ get_or rounds i r → runs_of (take i rounds) + length r.inputs ≤ runs_of rounds
within_at i [] r within is = absurd (omega arith)
within_at zero (x ∷ rounds) r within is =
    omega (arith, sum_by-cons (λ (y : Round). length y.inputs) x rounds, ap (λ (y : Round). length y.inputs) is)
within_at (suc i) (x ∷ rounds) r within is =
    omega (arith, sum_by-cons (λ (y : Round). length y.inputs) x rounds, sum_by-cons (λ (y : Round). length y.inputs) x (take i rounds), within_at i rounds r (omega arith) is)

-- the numbers of a round of a plan
pub numbers_lie : (plan : PlanOf) (rounds : List Round) (round : ℕ) (r : Round) → rounds ≡ plan.rounds → round < length plan.rounds → r ≡ get_or rounds round r
    → numbers_of plan round ≡ range_with_len (runs_of (take round rounds)) (length r.inputs)
numbers_lie plan rounds round r same within is =
    let below : round < length rounds = omega (arith, ap length same) in
    ap (λ (l : List Round). numbers_from 0 (runs_from 0 l) round) (sym same)
    ∙ numbers_at 0 0 round round rounds r (omega arith) below is
    ∙ ap (λ m. range_with_len m (length r.inputs)) (omega arith)

-- they are numbers of its runs
pub numbers_within : RunsAreCounted → (plan : PlanOf) (rounds : List Round) (round : ℕ) (r : Round) → rounds ≡ plan.rounds → round < length plan.rounds → r ≡ get_or rounds round r
    → runs_of (take round rounds) + length r.inputs ≤ length (runs plan)
numbers_within counted plan rounds round r same within is =
    omega (arith, within_at round rounds r (omega (arith, ap length same)) is, counted plan rounds same)

-- which are few
pub few_runs : RunsAreCounted → (plan : PlanOf) (rounds : List Round) → rounds ≡ plan.rounds → runs_of rounds ≤ 1024 → length (runs plan) ≤ 1024
few_runs counted plan rounds same few = omega (arith, counted plan rounds same)
