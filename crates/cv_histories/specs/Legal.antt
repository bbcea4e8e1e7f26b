-- When a history is legal (docs/REPAIR.md, "Legal histories"). Histories have their newest
-- entry first.
use Rattle.std.specs.Prelude.{◌≡◌, ◌≢◌, ◌<◌, ◌≤◌, ℕ, Bool, true, false, ◌==◌, nat_lt, List, [], ◌∷◌, length, Option, Some, None, Contains}
use Rattle.std.specs.List.{AllByRecursion}
use Rattle.cv_base.specs.declared.entries.Adopted.{Adopted}
use Rattle.cv_base.specs.declared.entries.Entry.{Entry}
use Rattle.cv_base.specs.PlanOf.{PlanOf}
use Rattle.cv_histories.specs.Honest.{IsHonest}
use Rattle.cv_histories.specs.Runs.{Run, run_at, runs}
use Rattle.cv_histories.specs.Versions.{ledger, newest}

abbrev pub round_in : Option Run → ℕ
round_in None = 0
round_in (Some run) = run.round

abbrev pub round_of : PlanOf → Entry → ℕ
round_of plan e = round_in (run_at plan e.run)

-- the history up to the newest entry that passes a test, that entry included
abbrev pub up_to : (Entry → Bool) → List Entry → List Entry
up_to test [] = []
up_to test (e ∷ past) = elim (test e) [ true ↦ e ∷ past | false ↦ up_to test past ]

-- the newest version after that entry; 0 where there is none
abbrev pub floor_of : PlanOf → (Entry → Bool) → List Entry → ℕ
floor_of plan test past = newest plan (up_to test past)

-- adopted versions do not fall
abbrev pub NeverFalls : List Adopted → Type 0
NeverFalls [] = Unit {0}
NeverFalls (a ∷ []) = Unit {0}
NeverFalls (a ∷ b ∷ rest) = (a.version ≤ b.version) × NeverFalls (b ∷ rest)

-- every run of an earlier round has an entry
abbrev pub EarlierRoundsDone : PlanOf → ℕ → List Entry → Type 0
EarlierRoundsDone plan round past =
    (number : ℕ) (run : Run) → run_at plan number ≡ Some run → run.round < round → HasEntry number past
  where
    HasEntry : ℕ → List Entry → Type 0
    HasEntry number past = (e : Entry) × Contains past e × (e.run ≡ number)

-- an entry may follow a history
pub record MayFollow (plan : PlanOf) (past : List Entry) (e : Entry) : Type 0 where
  -- its worker is the plan's, and no other entry has its run
  pub worker : e.worker < plan.workers
  pub fresh : AllByRecursion (λ (o : Entry). o.run ≢ e.run) past
  -- all runs of earlier rounds have their entries before it
  pub rounds : EarlierRoundsDone plan (round_of plan e) past
  -- within a round, the runs of one worker rise
  pub rises : AllByRecursion (λ (o : Entry). round_of plan o ≡ round_of plan e → o.worker ≡ e.worker → o.run < e.run) past
  -- it says what its run did, under the versions of the entries before it
  pub honest : IsHonest plan ((ledger plan past).versions) e
  -- its adopted versions never fall
  pub never_falls : NeverFalls e.adopted
  -- each is at least the newest version after the same worker's entry before it, and after all
  -- earlier rounds
  pub above_worker : AllByRecursion (λ (a : Adopted). floor_of plan (λ (o : Entry). o.worker == e.worker) past ≤ a.version) e.adopted
  pub above_rounds : AllByRecursion (λ (a : Adopted). floor_of plan (λ (o : Entry). nat_lt (round_of plan o) (round_of plan e)) past ≤ a.version) e.adopted
  -- each is at most the newest version of the entries before it
  pub at_most_newest : AllByRecursion (λ (a : Adopted). a.version ≤ newest plan past) e.adopted

abbrev pub IsLegal : PlanOf → List Entry → Type 0
IsLegal plan [] = Unit {0}
IsLegal plan (e ∷ past) = MayFollow plan past e × IsLegal plan past

-- each run of the plan has its entry
abbrev pub IsWhole : PlanOf → List Entry → Type 0
IsWhole plan past = (number : ℕ) → number < length (runs plan) → (e : Entry) × Contains past e × (e.run ≡ number)
