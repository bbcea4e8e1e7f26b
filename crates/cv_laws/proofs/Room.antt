-- A legal history has room for an entry that may follow it: its runs are different, and each is a
-- run of the plan.
use Rattle.std.proofs.Common.{◌≡◌, ◌<◌, ◌≤◌, ℕ, false, true, List, [], ◌∷◌, length, refl, arith}
use Rattle.std.specs.Prelude.{◌≢◌, ◌||◌, Bool, map}
use Rattle.std.specs.List.{AllByRecursion, IsDistinct, list_any}
use Rattle.std.proofs.lemmas.Bool.{eqb-true, false_from_ne_true}
use Rattle.std.proofs.lemmas.List.{length-map}
use Rattle.std.proofs.lemmas.Map.Keys.{IsDistinct-cons}
use Rattle.std.proofs.lemmas.Map.Steps.{length-le_from_distinct_below}
use Rattle.std.proofs.Math.Dec.{eqb}
use Rattle.cv_base.specs.declared.entries.Entry.{Entry}
use Rattle.cv_base.specs.PlanOf.{PlanOf}
use Rattle.cv_histories.specs.Legal.{IsLegal, MayFollow}
use Rattle.cv_histories.specs.Runs.{runs}
use Rattle.cv_laws.proofs.OneWorkerRises.{legal_below}
use Rattle.cv_laws.specs.Statements.{FollowedHasRoom, LegalIsFew}

-- the runs of the entries of a history
abbrev runs_in : List Entry → List ℕ
runs_in past = map (λ (o : Entry). o.run) past

-- a run that no entry has is not among them
apart : (number : ℕ) (past : List Entry) → AllByRecursion (λ (o : Entry). o.run ≢ number) past → AllByRecursion (λ (k : ℕ). eqb number k ≡ false) (runs_in past)
apart number [] fresh = tt
apart number (o ∷ past) fresh =
    (false_from_ne_true (eqb number o.run) (λ is. fresh.0 (let same : number ≡ o.run = eqb-true number o.run is in cc)), apart number past fresh.1)

-- the runs of a legal history are different
none_distinct : IsDistinct eqb []
unfolding IsDistinct
none_distinct = tt

distinct_runs : (plan : PlanOf) (past : List Entry) (e : Entry) → IsLegal plan past → MayFollow plan past e → IsDistinct eqb (runs_in (e ∷ past))
distinct_runs plan [] e legal may = IsDistinct-cons eqb e.run [] tt none_distinct
distinct_runs plan (o ∷ past) e legal may =
    IsDistinct-cons eqb e.run (runs_in (o ∷ past)) (apart e.run (o ∷ past) may.fresh) (distinct_runs plan past o legal.1 legal.0)

-- a number that a run below n or one of those behind it has is below n
below_one : (n q k : ℕ) (later b : Bool) → eqb q k ≡ b → k < n → (later ≡ true → q < n) → (b || later) ≡ true → q < n
below_one n q k later true is below rest any = let same = eqb-true q k is in omega arith
below_one n q k later false is below rest any = rest any

-- so is one that some entry has, where all runs are below n
below_any : (n q : ℕ) (past : List Entry) → AllByRecursion (λ (o : Entry). o.run < n) past → list_any (eqb q) (runs_in past) ≡ true → q < n
below_any n q [] all any = absurd cc
below_any n q (o ∷ past) all any = below_one n q o.run (list_any (eqb q) (runs_in past)) (eqb q o.run) refl all.0 (below_any n q past all.1) any

-- a legal history has fewer entries than the plan has runs, where one more entry may follow
pub has_room : FollowedHasRoom
has_room plan past e legal may =
    let few : length (runs_in (e ∷ past)) ≤ length (runs plan) =
    length-le_from_distinct_below (runs_in (e ∷ past)) (length (runs plan)) (distinct_runs plan past e legal may)
    (λ q any. below_any (length (runs plan)) q (e ∷ past) (legal_below plan (e ∷ past) (may, legal)) any) in
    let count = length-map past (λ (o : Entry). o.run) in
    omega arith

-- and no more than it has
pub legal_is_few : LegalIsFew
legal_is_few plan [] legal = omega arith
legal_is_few plan (e ∷ past) legal = let room = has_room plan past e legal.1 legal.0 in omega arith
