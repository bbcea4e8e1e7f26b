-- The rounds of runs, and a history of all of them.
use Rattle.std.proofs.Common.{◌≡◌, ◌≤◌, ◌<◌, ◌+◌, ℕ, zero, suc, List, [], ◌∷◌, ◌++◌, length, map, Some, refl, sym, ap, arith}
use Rattle.std.specs.Prelude.{slice_get}
use Rattle.cv_base.specs.declared.entries.Entry.{Entry}
use Rattle.cv_base.specs.declared.plan.Mode.{Mode}
use Rattle.cv_base.specs.declared.plan.Round.{Round}
use Rattle.cv_base.specs.PlanOf.{PlanOf}
use Rattle.cv_desk.specs.Openings.{IsUpTo}
use Rattle.cv_histories.specs.Legal.{IsWhole}
use Rattle.cv_histories.specs.Runs.{Run, runs, runs_from}

-- what stands in one list or behind it
either_list : (P : Run → Type 0) (xs ys : List Run) (k : ℕ) (r : Run) → ((j : ℕ) → slice_get xs j ≡ Some r → P r) → ((j : ℕ) → slice_get ys j ≡ Some r → P r) → slice_get (xs ++ ys) k ≡ Some r → P r
either_list P [] ys k r first later at = later k at
either_list P (x ∷ xs) ys zero r first later at = first 0 at
either_list P (x ∷ xs) ys (suc k) r first later at = either_list P xs ys k r (λ j is. first (suc j) is) later at

of_round : (n : ℕ) (mode : Mode) (inputs : List (List ℕ)) (k : ℕ) (r : Run) → slice_get (map (λ (input : List ℕ). record { round = n; mode = mode; input = input }) inputs) k ≡ Some r → r.round ≡ n
of_round n mode [] k r at = absurd cc
of_round n mode (x ∷ xs) zero r at =
    let same : record { round = n; mode = mode; input = x } ≡ r = cc in
    sym (ap (λ (s : Run). s.round) same)
of_round n mode (x ∷ xs) (suc k) r at = of_round n mode xs k r at

-- each run is of one of the rounds
pub round_within : (n : ℕ) (rounds : List Round) (k : ℕ) (r : Run) → slice_get (runs_from n rounds) k ≡ Some r → r.round < n + length rounds
round_within n [] k r at = absurd cc
round_within n (x ∷ rounds) k r at =
    either_list (λ (s : Run). s.round < n + suc (length rounds)) (map (λ (input : List ℕ). record { round = n; mode = x.mode; input = input }) x.inputs) (runs_from (n + 1) rounds) k r
    (λ j is. let here = of_round n x.mode x.inputs j r is in omega arith)
    (λ j is. let later = round_within (n + 1) rounds j r is in omega arith)
    at

pub get_there : {X : Type 0} (xs : List X) (k : ℕ) → k < length xs → (x : X) × (slice_get xs k ≡ Some x)
get_there [] k within = absurd (omega arith)
get_there (x ∷ xs) zero within = (x, refl)
get_there (x ∷ xs) (suc k) within = get_there xs k (omega arith)

pub whole_up_to : (plan : PlanOf) (past : List Entry) (n : ℕ) → length plan.rounds ≤ n → IsUpTo plan n past → IsWhole plan past
whole_up_to plan past n all up_to = λ number within.
    let run = get_there (runs plan) number within in
    let round = round_within 0 plan.rounds number run.0 run.1 in
    up_to.all number run.0 run.1 (omega (arith, all, round))
