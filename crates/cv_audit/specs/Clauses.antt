-- The tests of an entry after a history, in the order in which they are judged, each with the clause
-- of a legal history that it is of (docs/REPAIR.md, "Audit").
use Rattle.std.specs.Prelude.{◌≡◌, ◌≢◌, ◌<◌, ◌≤◌, ◌⊎◌, ℕ, ◌==◌, nat_lt, List, [], ◌∷◌, IsSomeAnd, Contains}
use Rattle.std.specs.List.{AllByRecursion}
use Rattle.cv_base.specs.declared.entries.Adopted.{Adopted}
use Rattle.cv_base.specs.declared.entries.Entry.{Entry}
use Rattle.cv_base.specs.PlanOf.{PlanOf}
use Rattle.cv_histories.specs.Honest.{IsHonest}
use Rattle.cv_histories.specs.Legal.{EarlierRoundsDone, NeverFalls, floor_of, round_of}
use Rattle.cv_histories.specs.Runs.{Run, run_at}
use Rattle.cv_histories.specs.Versions.{ledger, newest}

pub data Test : Type 0 where
  OwnRun : Test
  OfPlan : Test
  RoundsDone : Test
  RunsRise : Test
  VersionsExist : Test
  VersionsRise : Test
  AboveFloors : Test
  Honest : Test

abbrev pub tests : List Test
tests = OwnRun ∷ OfPlan ∷ RoundsDone ∷ RunsRise ∷ VersionsExist ∷ VersionsRise ∷ AboveFloors ∷ Honest ∷ []

abbrev pub clause_of : Test → ℕ
clause_of OwnRun = 1
clause_of OfPlan = 4
clause_of RoundsDone = 2
clause_of RunsRise = 3
clause_of VersionsExist = 7
clause_of VersionsRise = 5
clause_of AboveFloors = 6
clause_of Honest = 4

-- the entries have this run
abbrev pub HasRun : List Entry → ℕ → Type 0
HasRun past number = (e : Entry) × Contains past e × (e.run ≡ number)

-- its worker is the plan's, and no entry before it has its run
abbrev pub IsOwnRun : PlanOf → List Entry → Entry → Type 0
IsOwnRun plan past e = (e.worker < plan.workers) × AllByRecursion (λ (o : Entry). o.run ≢ e.run) past

-- its run is one of the plan, in that run's mode
abbrev pub IsOfPlan : PlanOf → Entry → Type 0
IsOfPlan plan e = IsSomeAnd (run_at plan e.run) (λ (run : Run). e.mode ≡ run.mode)

abbrev pub DoRunsRise : PlanOf → List Entry → Entry → Type 0
DoRunsRise plan past e =
    AllByRecursion (λ (o : Entry). round_of plan o ≡ round_of plan e → o.worker ≡ e.worker → o.run < e.run) past

abbrev pub AreAtLeast : ℕ → List Adopted → Type 0
AreAtLeast floor rows = AllByRecursion (λ (a : Adopted). floor ≤ a.version) rows

abbrev pub AreAtMost : ℕ → List Adopted → Type 0
AreAtMost top rows = AllByRecursion (λ (a : Adopted). a.version ≤ top) rows

-- the newest version after the same worker's entry before it, and after all earlier rounds
abbrev pub floor_of_worker : PlanOf → List Entry → Entry → ℕ
floor_of_worker plan past e = floor_of plan (λ (o : Entry). o.worker == e.worker) past

abbrev pub floor_of_rounds : PlanOf → List Entry → Entry → ℕ
floor_of_rounds plan past e = floor_of plan (λ (o : Entry). nat_lt (round_of plan o) (round_of plan e)) past

abbrev pub AreAboveFloors : PlanOf → List Entry → Entry → Type 0
AreAboveFloors plan past e = AreAtLeast (floor_of_worker plan past e) e.adopted × AreAtLeast (floor_of_rounds plan past e) e.adopted

abbrev pub Passes : PlanOf → List Entry → Entry → Test → Type 0
Passes plan past e OwnRun = IsOwnRun plan past e
Passes plan past e OfPlan = IsOfPlan plan e
Passes plan past e RoundsDone = EarlierRoundsDone plan (round_of plan e) past
Passes plan past e RunsRise = DoRunsRise plan past e
Passes plan past e VersionsExist = AreAtMost (newest plan past) e.adopted
Passes plan past e VersionsRise = NeverFalls e.adopted
Passes plan past e AboveFloors = AreAboveFloors plan past e
Passes plan past e Honest = IsHonest plan (ledger plan past).versions e

-- of tests in their order, the first one that fails is of this clause
abbrev pub FailsFirst : (Test → Type 0) → List Test → ℕ → Type 0
FailsFirst Does [] clause = ⊥
FailsFirst Does (test ∷ rest) clause = ((Does test → ⊥) × (clause ≡ clause_of test)) ⊎ (Does test × FailsFirst Does rest clause)

-- the clause that an entry breaks first
abbrev pub Breaks : PlanOf → List Entry → Entry → ℕ → Type 0
Breaks plan past e clause = FailsFirst (Passes plan past e) tests clause

-- it breaks none
abbrev pub PassesAll : PlanOf → List Entry → Entry → Type 0
PassesAll plan past e = AllByRecursion (Passes plan past e) tests
