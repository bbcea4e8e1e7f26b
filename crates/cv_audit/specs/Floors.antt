-- What a judge keeps beside a history, and asks of a run (docs/REPAIR.md, "Audit"). Conditions of
-- private parts.
use Rattle.std.specs.Prelude.{◌≡◌, ◌≢◌, ◌<◌, ℕ, List, [], ◌∷◌, reverse}
use Rattle.std.specs.List.{AllByRecursion}
use Rattle.cv_base.specs.declared.entries.Entry.{Entry}
use Rattle.cv_base.specs.PlanOf.{PlanOf}
use Rattle.cv_histories.specs.Legal.{round_in}
use Rattle.cv_histories.specs.Runs.{run_at}
use Rattle.cv_histories.specs.Versions.{newest}
use Rattle.cv_audit.specs.Clauses.{Passes, Test, OwnRun, OfPlan, RoundsDone, RunsRise, VersionsExist, VersionsRise, AboveFloors}

-- the newest version after each entry, the newest first
abbrev pub floors_of : PlanOf → List Entry → List ℕ
floors_of plan [] = []
floors_of plan (e ∷ past) = newest plan (e ∷ past) ∷ floors_of plan past

-- of each entry, in the order of the posts
pub record AreFloors (plan : PlanOf) (past : List Entry) (floors : List ℕ) : Type 0 where
  pub are : floors ≡ reverse (floors_of plan past)

-- a run is of a round before this one, and has no entry
abbrev pub IsEarlierMissing : PlanOf → List Entry → ℕ → ℕ → Type 0
IsEarlierMissing plan past round run = (round_in (run_at plan run) < round) × AllByRecursion (λ (o : Entry). o.run ≢ run) past

-- the tests that come before the run is run again
abbrev pub first_tests : List Test
first_tests = OwnRun ∷ OfPlan ∷ RoundsDone ∷ RunsRise ∷ VersionsExist ∷ VersionsRise ∷ AboveFloors ∷ []

abbrev pub PassesFirst : PlanOf → List Entry → Entry → Type 0
PassesFirst plan past e = AllByRecursion (Passes plan past e) first_tests
