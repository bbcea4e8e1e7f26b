-- Runs rise with their rounds; what is left of them from a number on; and how many there are.
use Rattle.std.proofs.Common.{◌≡◌, ◌<◌, ◌≤◌, ◌∙◌, ◌+◌, ℕ, zero, suc, List, [], ◌∷◌, ◌++◌, length, drop, Some, refl, sym, ap, subst, length-append, ⊎_elim, arith}
use Rattle.std.proofs.lemmas.Bool.{cases_lt}
use Rattle.std.proofs.lemmas.List.{length-map}
use Rattle.std.proofs.lemmas.List.Sums.{sum_by-cons}
use Rattle.std.specs.Prelude.{map, slice_get}
use Rattle.std.specs.List.{AllByRecursion}
use Rattle.cv_base.specs.declared.plan.Mode.{Mode}
use Rattle.cv_base.specs.declared.plan.Round.{Round}
use Rattle.cv_base.specs.PlanOf.{PlanOf, runs_of}
use Rattle.cv_histories.specs.Runs.{Run, run_at, runs, runs_from}
use Rattle.cv_laws.specs.Each.{all_at, weaker}
use Rattle.cv_laws.specs.RoundStatements.{EarlierIsBelow, RunsAreCounted}

-- ---- rounds

-- no run is of an earlier round than those before it
abbrev IsRising : List Run → Type 0
IsRising [] = Unit {0}
IsRising (r ∷ rs) = AllByRecursion (λ (s : Run). r.round ≤ s.round) rs × IsRising rs

-- and none is of a round before n
abbrev IsRisingFrom : ℕ → List Run → Type 0
IsRisingFrom n rs = AllByRecursion (λ (s : Run). n ≤ s.round) rs × IsRising rs

-- the runs of one round, before those of later rounds
round_rises : (n : ℕ) (mode : Mode) (inputs : List (List ℕ)) (later : List Run) → IsRisingFrom n later
    → IsRisingFrom n (map (λ (input : List ℕ). record { round = n; mode = mode; input = input }) inputs ++ later)
round_rises n mode [] later rising = rising
round_rises n mode (input ∷ inputs) later rising =
    let rest = round_rises n mode inputs later rising in
    ((omega arith, rest.0), (rest.0, rest.1))

-- the runs of all rounds
runs_rise : (n : ℕ) (rounds : List Round) → IsRisingFrom n (runs_from n rounds)
runs_rise n [] = (tt, tt)
runs_rise n (r ∷ rs) =
    let later = runs_rise (n + 1) rs in
    let low = weaker (λ (s : Run). n + 1 ≤ s.round) (λ (s : Run). n ≤ s.round) (λ s above. omega arith) (runs_from (n + 1) rs) later.0 in
    round_rises n r.mode r.inputs (runs_from (n + 1) rs) (low, later.1)

-- of two runs the one with the lower number is not of a later round
rounds_rise : (rs : List Run) (i j : ℕ) (r s : Run) → IsRising rs → slice_get rs i ≡ Some r → slice_get rs j ≡ Some s → i ≤ j → r.round ≤ s.round
rounds_rise [] i j r s rising first second below = absurd cc
rounds_rise (x ∷ rs) zero zero r s rising first second below =
    let same : r ≡ s = cc in
    subst (λ (x : Run). r.round ≤ x.round) same (omega arith)
rounds_rise (x ∷ rs) zero (suc j) r s rising first second below =
    let same : x ≡ r = cc in
    subst (λ (y : Run). y.round ≤ s.round) same (all_at (λ (s : Run). x.round ≤ s.round) rs j s rising.0 second)
rounds_rise (x ∷ rs) (suc i) zero r s rising first second below = absurd (omega arith)
rounds_rise (x ∷ rs) (suc i) (suc j) r s rising first second below = rounds_rise rs i j r s rising.1 first second (omega arith)

-- a run of an earlier round has a lower number
pub earlier_below : EarlierIsBelow
earlier_below plan i j r s first second earlier =
    ⊎_elim (λ below. below)
    (λ above. let rises = rounds_rise (runs plan) i j r s (runs_rise 0 plan.rounds).1 first second above in absurd (omega arith)) (cases_lt j i)

-- ---- what is left of the runs from a number on

-- run k is there, and the rest is what is left from the next number on
pub record IsLeft (rs : List Run) (k : ℕ) (r : Run) (rest : List Run) : Type 0 where
  pub at : slice_get rs k ≡ Some r
  pub later : drop (k + 1) rs ≡ rest

-- where something is left, its first is the run of that number
pub first_left : (rs : List Run) (k : ℕ) (r : Run) (rest : List Run) → drop k rs ≡ r ∷ rest → IsLeft rs k r rest
first_left [] zero r rest left = absurd cc
first_left [] (suc k) r rest left = absurd cc
first_left (x ∷ rs) zero r rest left = record { at = cc; later = cc }
first_left (x ∷ rs) (suc k) r rest left =
    let inner = first_left rs k r rest left in
    let count : suc k + 1 ≡ suc (k + 1) = omega arith in
    record { at = inner.at; later = ap (λ n. drop n (x ∷ rs)) count ∙ inner.later }

-- where nothing is left, there are no runs from that number on
pub none_left : (rs : List Run) (k : ℕ) → drop k rs ≡ [] → length rs ≤ k
none_left [] k left = omega arith
none_left (x ∷ rs) zero left = absurd cc
none_left (x ∷ rs) (suc k) left =
    let inner = none_left rs k left in
    omega arith

-- what is left begins with the run of that number
pub left_at : (rs : List Run) (k : ℕ) (r : Run) → slice_get rs k ≡ Some r → drop k rs ≡ r ∷ drop (k + 1) rs
left_at [] k r at = absurd cc
left_at (x ∷ rs) zero r at =
    let same : x ≡ r = cc in
    ap (λ (y : Run). y ∷ rs) same
left_at (x ∷ rs) (suc k) r at =
    let count : suc (k + 1) ≡ suc k + 1 = omega arith in
    left_at rs k r at ∙ ap (λ n. r ∷ drop n (x ∷ rs)) count

-- ---- the number of runs

-- of rounds
count_from : (n : ℕ) (rounds : List Round) → length (runs_from n rounds) ≡ runs_of rounds
count_from n [] = refl
count_from n (r ∷ rs) =
    let rest = count_from (n + 1) rs in
    length-append (map (λ (input : List ℕ). record { round = n; mode = r.mode; input = input }) r.inputs) (runs_from (n + 1) rs)
    ∙ rw (length-map, rest) (sym (sum_by-cons (λ (x : Round). length x.inputs) r rs))

-- of a plan
pub count : RunsAreCounted
count plan rounds same = sym (count_from 0 rounds) ∙ ap (λ rs. length (runs_from 0 rs)) same
