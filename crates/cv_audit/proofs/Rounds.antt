-- The round of a run, through the rounds of a plan; and the rounds before it.
use Rattle.std.proofs.Common.{◌≡◌, ◌<◌, ◌≤◌, ℕ, zero, suc, ◌+◌, ◌-◌, List, [], ◌∷◌, ◌++◌, length, drop, get_or, map, Option, Some, None, refl, sym, ap, ◌∙◌, subst, arith, drop-cons}
use Rattle.std.specs.Prelude.{IsSome, slice_get}
use Rattle.std.proofs.Math.Nat.{sub-zero}
use Rattle.cv_base.specs.declared.entries.Entry.{Entry}
use Rattle.cv_base.specs.declared.plan.Mode.{Mode}
use Rattle.cv_base.specs.declared.plan.Round.{Round}
use Rattle.cv_base.specs.PlanOf.{PlanOf}
use Rattle.cv_histories.specs.Legal.{round_in}
use Rattle.cv_histories.specs.Runs.{Run, run_at, runs_from}
use Rattle.cv_laws.specs.RoundStatements.{EarlierIsBelow}
use Rattle.cv_audit.specs.Clauses.{HasRun}

abbrev run_with : ℕ → Mode → List ℕ → Run
run_with n mode input = record { round = n; mode = mode; input = input }

here : (n left : ℕ) (mode : Mode) (inputs : List (List ℕ)) (rest : List Run) → left < length inputs
    → round_in (slice_get (map (λ (input : List ℕ). run_with n mode input) inputs ++ rest) left) ≡ n
here n left mode [] rest h = absurd (omega arith)
here n zero mode (i ∷ is) rest h = refl
here n (suc left) mode (i ∷ is) rest h = here n left mode is rest (omega arith)

behind : (n left : ℕ) (mode : Mode) (inputs : List (List ℕ)) (rest : List Run) → length inputs ≤ left
    → slice_get (map (λ (input : List ℕ). run_with n mode input) inputs ++ rest) left ≡ slice_get rest (left - length inputs)
behind n left mode [] rest h = rw sub-zero refl
behind n zero mode (i ∷ is) rest h = absurd (omega arith)
behind n (suc left) mode (i ∷ is) rest h = behind n left mode is rest (omega arith) ∙ ap (λ k. slice_get rest k) (omega arith)

opened : (rounds : List Round) (k : ℕ) (r : Round) → k < length rounds → r ≡ get_or rounds k r
    → runs_from k (drop k rounds) ≡ map (λ (input : List ℕ). run_with k r.mode input) r.inputs ++ runs_from (k + 1) (drop (k + 1) rounds)
opened rounds k r h is =
    let next : suc k ≡ k + 1 = omega arith in
    ap (runs_from k) (drop-cons rounds k r h)
    ∙ ap (λ (x : Round). map (λ (input : List ℕ). run_with k x.mode input) x.inputs ++ runs_from (k + 1) (drop (suc k) rounds)) (sym is)
    ∙ ap (λ j. map (λ (input : List ℕ). run_with k r.mode input) r.inputs ++ runs_from (k + 1) (drop j rounds)) next

-- the run lies in the round k
pub found : (plan : PlanOf) (rounds : List Round) (number k left : ℕ) (r : Round) → rounds ≡ plan.rounds → k < length rounds → r ≡ get_or rounds k r
    → slice_get (runs_from k (drop k rounds)) left ≡ slice_get (runs_from 0 rounds) number → left < length r.inputs
    → k ≡ round_in (run_at plan number)
found plan rounds number k left r same h is so_far below =
    sym (here k left r.mode r.inputs (runs_from (k + 1) (drop (k + 1) rounds)) below)
    ∙ ap (λ (l : List Run). round_in (slice_get l left)) (sym (opened rounds k r h is))
    ∙ ap round_in so_far
    ∙ ap (λ (rs : List Round). round_in (slice_get (runs_from 0 rs) number)) same

-- the run lies behind the round r
pub passed : (rounds : List Round) (number k left : ℕ) (r : Round) → k < length rounds → r ≡ get_or rounds k r
    → slice_get (runs_from k (drop k rounds)) left ≡ slice_get (runs_from 0 rounds) number → length r.inputs ≤ left
    → slice_get (runs_from (k + 1) (drop (k + 1) rounds)) (left - length r.inputs) ≡ slice_get (runs_from 0 rounds) number
passed rounds number k left r h is so_far above =
    sym (behind k left r.mode r.inputs (runs_from (k + 1) (drop (k + 1) rounds)) above)
    ∙ ap (λ l. slice_get l left) (sym (opened rounds k r h is)) ∙ so_far

-- ---- rounds before a run's

-- a run of an earlier round has a lower number than one that the plan has
below_by : EarlierIsBelow → (plan : PlanOf) (k number : ℕ) (o : Option Run) (r : Run) → run_at plan k ≡ o → IsSome o → run_at plan number ≡ Some r → r.round < round_in (run_at plan k) → number < k
below_by earlier_below plan k number None r is some at earlier = absurd cc
below_by earlier_below plan k number (Some own) r is some at earlier =
    let round : round_in (run_at plan k) ≡ own.round = ap round_in is in
    earlier_below plan k number own r is at (omega arith)

pub earlier_is_below : EarlierIsBelow → (plan : PlanOf) (k number : ℕ) (r : Run) → IsSome (run_at plan k) → run_at plan number ≡ Some r → r.round < round_in (run_at plan k) → number < k
earlier_is_below earlier_below plan k number r some at earlier = below_by earlier_below plan k number (run_at plan k) r refl some at earlier

-- a run of an earlier round has its entry, where that was found out of its number
pub at_run : (plan : PlanOf) (past : List Entry) (number k round : ℕ) (r : Run) → k ≡ number → run_at plan number ≡ Some r → r.round < round → (round_in (run_at plan k) < round → HasRun past k) → HasRun past number
at_run plan past number k round r same at earlier has =
    let in_round : round_in (run_at plan k) ≡ r.round = ap (λ (n : ℕ). round_in (run_at plan n)) same ∙ ap round_in at in
    subst (HasRun past) same (has (omega arith))
