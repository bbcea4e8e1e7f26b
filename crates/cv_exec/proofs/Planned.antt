-- The runs of a plan, through its rounds.
use Rattle.std.proofs.Common.{◌≡◌, ◌<◌, ◌≤◌, ℕ, zero, suc, ◌+◌, ◌-◌, List, [], ◌∷◌, ◌++◌, length, drop, get_or, map, Some, refl, sym, ap, ◌∙◌, arith, drop-cons}
use Rattle.std.specs.Prelude.{slice_get}
use Rattle.std.proofs.Math.Nat.{sub-zero}
use Rattle.cv_base.specs.declared.plan.Mode.{Mode}
use Rattle.cv_base.specs.declared.plan.Round.{Round}
use Rattle.cv_base.specs.PlanOf.{PlanOf}
use Rattle.cv_exec.specs.PlannedRun.{IsRunWith}
use Rattle.cv_histories.specs.Runs.{Run, run_at, runs_from}

abbrev run_with : ℕ → Mode → List ℕ → Run
run_with n mode input = record { round = n; mode = mode; input = input }

here : (n left : ℕ) (mode : Mode) (inputs : List (List ℕ)) (rest : List Run) (input : List ℕ) → left < length inputs → input ≡ get_or inputs left input
    → slice_get (map (λ (input : List ℕ). run_with n mode input) inputs ++ rest) left ≡ Some (run_with n mode input)
here n left mode [] rest input h is = absurd (omega arith)
here n zero mode (i ∷ is) rest input h same = ap (λ l. Some (run_with n mode l)) (sym same)
here n (suc left) mode (i ∷ is) rest input h same = here n left mode is rest input (omega arith) same

behind : (n left : ℕ) (mode : Mode) (inputs : List (List ℕ)) (rest : List Run) → length inputs ≤ left
    → slice_get (map (λ (input : List ℕ). run_with n mode input) inputs ++ rest) left ≡ slice_get rest (left - length inputs)
behind n left mode [] rest h = rw sub-zero refl
behind n zero mode (i ∷ is) rest h = absurd (omega arith)
behind n (suc left) mode (i ∷ is) rest h = behind n left mode is rest (omega arith) ∙ ap (λ k. slice_get rest k) (omega arith)

opened : (rounds : List Round) (k : ℕ) (r : Round) → k < length rounds → r ≡ get_or rounds k r
    → runs_from k (drop k rounds) ≡ map (λ (input : List ℕ). run_with k r.mode input) r.inputs ++ runs_from (k + 1) (drop (k + 1) rounds)
opened rounds k r h is =
    let next : suc k ≡ k + 1 = omega arith in
    ap (runs_from k) (drop-cons rounds k r h)
    ∙ ap (λ (x : Round). map (λ (input : List ℕ). run_with k x.mode input) x.inputs ++ runs_from (k + 1) (drop (suc k) rounds)) (sym is)
    ∙ ap (λ j. map (λ (input : List ℕ). run_with k r.mode input) r.inputs ++ runs_from (k + 1) (drop j rounds)) next

-- the run lies in the round r, of which it has the input at `left`
pub found : (plan : PlanOf) (rounds : List Round) (number k left : ℕ) (r : Round) (input : List ℕ) → rounds ≡ plan.rounds → k < length rounds → r ≡ get_or rounds k r
    → slice_get (runs_from k (drop k rounds)) left ≡ slice_get (runs_from 0 rounds) number → left < length r.inputs → input ≡ get_or r.inputs left input
    → IsRunWith r.mode input (run_at plan number)
found plan rounds number k left r input same h is so_far below at =
    let run : run_at plan number ≡ Some (run_with k r.mode input) =
    ap (λ rs. slice_get (runs_from 0 rs) number) (sym same)
    ∙ sym so_far
    ∙ ap (λ l. slice_get l left) (opened rounds k r h is)
    ∙ here k left r.mode r.inputs (runs_from (k + 1) (drop (k + 1) rounds)) input below at in
    rw run (refl, refl)

-- the run lies behind the round r
pub passed : (rounds : List Round) (number k left : ℕ) (r : Round) → k < length rounds → r ≡ get_or rounds k r
    → slice_get (runs_from k (drop k rounds)) left ≡ slice_get (runs_from 0 rounds) number → length r.inputs ≤ left
    → slice_get (runs_from (k + 1) (drop (k + 1) rounds)) (left - length r.inputs) ≡ slice_get (runs_from 0 rounds) number
passed rounds number k left r h is so_far above =
    sym (behind k left r.mode r.inputs (runs_from (k + 1) (drop (k + 1) rounds)) above)
    ∙ ap (λ l. slice_get l left) (sym (opened rounds k r h is)) ∙ so_far
