-- A drill's plan keeps the limits of plans.
use Rattle.std.proofs.Common.{◌≡◌, ℕ, zero, suc, true, ◌≤◌, List, [], ◌∷◌, length, refl, sym, ap, subst, ◌∙◌, ◌/◌, ◌^◌, arith}
use Rattle.std.proofs.lemmas.Bool.Decides.{nat_tests}
use Rattle.std.specs.List.{list_all}
use Rattle.std.specs.Prelude.{nat_le}
use Rattle.cv_base.specs.declared.plan.Mode.TheVariants.{Learn, Live}
use Rattle.cv_base.specs.declared.plan.Round.{Round}
use Rattle.cv_base.specs.Picture.{Picture}
use Rattle.cv_base.specs.PlanOf.{IsPlan}
use Rattle.cv_histories.specs.DrillPlan.{chosen_input, first_input, live_inputs, next_number, second_input}

-- an input of four bytes is short enough
short : (top : ℕ) → nat_le (length (chosen_input top)) 65536 ≡ true
short top = grind (arith, nat_tests)

-- as many inputs as are asked for, and each is short enough
count_of : (count number : ℕ) → length (live_inputs count number) ≡ count
count_of zero number = refl
count_of (suc count) number = ap suc (count_of count (next_number number))

all_short : (count number : ℕ) → list_all (λ (input : List ℕ). nat_le (length input) 65536) (live_inputs count number) ≡ true
all_short zero number = refl
all_short (suc count) number = let first = short (next_number number / 2 ^ 62) in let rest = all_short count (next_number number) in cc

-- the two rounds
two_rounds : List (List ℕ) → List (List ℕ) → List Round
two_rounds good live = record { mode = Learn; inputs = good } ∷ record { mode = Live; inputs = live } ∷ []

limits_of : (image : Picture) (live : List (List ℕ)) → 1 ≤ length live → length live ≤ 1022
    → list_all (λ (input : List ℕ). nat_le (length input) 65536) live ≡ true
    → IsPlan (record { image = image; workers = 1; checks = 2; budget = 1000; rounds = two_rounds (first_input ∷ second_input ∷ []) live })
unfolding two_rounds
limits_of image live some few each = record {
  some_worker = omega arith;
  few_workers = omega arith;
  some_checks = omega arith;
  few_checks = omega arith;
  some_budget = omega arith;
  limited_budget = omega arith;
  some_round = omega arith;
  few_rounds = omega arith;
  each_round = grind (arith, nat_tests);
  few_runs = omega arith;
}

pub drill_limits : (image : Picture) (number count : ℕ) (rounds : List Round) (good live : List (List ℕ)) → 1 ≤ count → count ≤ 1022
    → good ≡ first_input ∷ second_input ∷ [] → live ≡ live_inputs count number
    → rounds ≡ record { mode = Learn; inputs = good } ∷ record { mode = Live; inputs = live } ∷ []
    → IsPlan (record { image = image; workers = 1; checks = 2; budget = 1000; rounds = rounds })
unfolding two_rounds
drill_limits image number count rounds good live some few same_good same_live are =
    let n = ap length same_live ∙ count_of count number in
    let each = ap (list_all (λ (input : List ℕ). nat_le (length input) 65536)) same_live ∙ all_short count number in
    subst (λ (rs : List Round). IsPlan (record { image = image; workers = 1; checks = 2; budget = 1000; rounds = rs }))
    (ap (λ (g : List (List ℕ)). two_rounds g live) (sym same_good) ∙ sym are)
    (limits_of image live (omega arith) (omega arith) each)
