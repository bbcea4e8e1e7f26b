-- A history has room for an entry of a run of its plan.
use Rattle.std.proofs.Common.{◌≡◌, ◌<◌, ◌+◌, ℕ, List, [], ◌∷◌, length, map, refl, sym, ap, ◌∙◌, arith, length-append}
use Rattle.std.proofs.lemmas.List.{length-map}
use Rattle.std.proofs.lemmas.List.Sums.{sum_by-cons}
use Rattle.cv_base.specs.declared.plan.Round.{Round}
use Rattle.cv_base.specs.PlanOf.{IsPlan, PlanOf, runs_of}
use Rattle.cv_histories.specs.Runs.{Run, runs, runs_from}

count_of : (n : ℕ) (rounds : List Round) → length (runs_from n rounds) ≡ runs_of rounds
count_of n [] = refl
count_of n (r ∷ rs) =
    let first = λ (input : List ℕ). let run : Run = record { round = n; mode = r.mode; input = input } in run in
    length-append (map first r.inputs) (runs_from (n + 1) rs)
    ∙ ap (λ (k : ℕ). k + length (runs_from (n + 1) rs)) (length-map r.inputs first)
    ∙ ap (λ (k : ℕ). length r.inputs + k) (count_of (n + 1) rs)
    ∙ sym (sum_by-cons (λ (r : Round). length r.inputs) r rs)

pub room : (plan : PlanOf) (posted : ℕ) → IsPlan plan → posted < length (runs plan) → posted < 1024
room plan posted limits fewer = omega (arith, limits.few_runs, count_of 0 plan.rounds)
