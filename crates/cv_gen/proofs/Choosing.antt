-- The live inputs of a drill, chosen one after another.
use Rattle.std.proofs.Common.{◌≡◌, ℕ, suc, ◌+◌, ◌-◌, ◌/◌, ◌^◌, ◌<◌, List, [], ◌∷◌, ◌++◌, ◌∙◌, ap, append_assoc, arith}
use Rattle.cv_histories.specs.DrillPlan.{chosen_input, live_inputs, next_number}

-- `input` is the next of `left + 1` inputs from `now` on
next_chosen : (left now next : ℕ) (input : List ℕ) → next ≡ next_number now → input ≡ chosen_input (next / 2 ^ 62)
    → input ∷ live_inputs left next ≡ live_inputs (suc left) now
next_chosen left now next input step chosen =
    ap (λ l. l ∷ live_inputs left next) chosen ∙ ap (λ n. chosen_input (n / 2 ^ 62) ∷ live_inputs left n) step

-- one input more: `all` are the inputs in the end
pub one_more : (runs i now next : ℕ) (inputs new all : List (List ℕ)) (input : List ℕ) → i < runs
    → next ≡ next_number now → input ≡ chosen_input (next / 2 ^ 62) → new ≡ inputs ++ input ∷ []
    → inputs ++ live_inputs (runs - i) now ≡ all → new ++ live_inputs (runs - (i + 1)) next ≡ all
one_more runs i now next inputs new all input within step chosen added before =
    let left : suc (runs - (i + 1)) ≡ runs - i = omega arith in
    ap (λ l. l ++ live_inputs (runs - (i + 1)) next) added
    ∙ append_assoc inputs (input ∷ []) (live_inputs (runs - (i + 1)) next)
    ∙ ap (λ l. inputs ++ l) (next_chosen (runs - (i + 1)) now next input step chosen ∙ ap (λ n. live_inputs n now) left)
    ∙ before
