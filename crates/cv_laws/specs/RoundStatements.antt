-- Laws on the rounds of a plan and the numbers of their runs (docs/REPAIR.md, "Laws on histories").
use Rattle.std.specs.Prelude.{◌≡◌, ◌<◌, ◌≤◌, ℕ, List, Some, length, slice_get}
use Rattle.cv_base.specs.declared.entries.Entry.{Entry}
use Rattle.cv_base.specs.declared.plan.Round.{Round}
use Rattle.cv_base.specs.PlanOf.{PlanOf, runs_of}
use Rattle.cv_histories.specs.Runs.{Run, run_at, runs}
use Rattle.cv_histories.specs.World.{current_round, numbers_of}

-- the runs of a plan are as many as its rounds have together
abbrev pub RunsAreCounted : Type 0
RunsAreCounted = (plan : PlanOf) (rounds : List Round) → rounds ≡ plan.rounds → runs_of rounds ≡ length (runs plan)

-- a run of an earlier round has a lower number
abbrev pub EarlierIsBelow : Type 0
EarlierIsBelow = (plan : PlanOf) (i j : ℕ) (r s : Run) → run_at plan i ≡ Some r → run_at plan j ≡ Some s → s.round < r.round → j < i

-- the number of a run of this round
pub record IsOfRound (plan : PlanOf) (round number : ℕ) : Type 0 where
  pub run : Run
  pub of_plan : run_at plan number ≡ Some run
  pub in_round : run.round ≡ round

-- each number of a round is that of a run of this round
abbrev pub NumbersAreOfRound : Type 0
NumbersAreOfRound = (plan : PlanOf) (round k number : ℕ) → slice_get (numbers_of plan round) k ≡ Some number → IsOfRound plan round number

-- they rise
abbrev pub NumbersRise : Type 0
NumbersRise =
    (plan : PlanOf) (round j k m n : ℕ) → j < k → slice_get (numbers_of plan round) j ≡ Some m
    → slice_get (numbers_of plan round) k ≡ Some n
    → m < n

-- the current round is one of the plan's
abbrev pub CurrentIsOfPlan : Type 0
CurrentIsOfPlan = (plan : PlanOf) (past : List Entry) (round : ℕ) → current_round plan past ≡ Some round → round < length plan.rounds
