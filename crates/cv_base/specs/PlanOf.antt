-- What a plan holds, and its limits (docs/FORMATS.md, "Job").
use Rattle.std.specs.Prelude.{◌≡◌, ℕ, Bool, true, ◌&&◌, ◌≤◌, nat_le, List, length, sum_by}
use Rattle.std.specs.List.{list_all}
use Rattle.cv_base.specs.declared.plan.Round.{Round}
use Rattle.cv_base.specs.Picture.{Picture}

pub record PlanOf : Type 0 where
  pub image : Picture
  pub workers : ℕ
  pub checks : ℕ
  pub budget : ℕ
  pub rounds : List Round

-- the number of runs of some rounds: one for each input
abbrev pub runs_of : List Round → ℕ
runs_of = sum_by (λ (r : Round). length r.inputs)

-- a round has an input, and no input is longer than 65,536 bytes
abbrev pub is_round : Round → Bool
is_round r = nat_le 1 (length r.inputs) && list_all (λ (input : List ℕ). nat_le (length input) 65536) r.inputs

pub record IsPlan (plan : PlanOf) : Type 0 where
  pub some_worker : 1 ≤ plan.workers
  pub few_workers : plan.workers ≤ 16
  pub some_checks : 2 ≤ plan.checks
  pub few_checks : plan.checks ≤ 8
  pub some_budget : 1 ≤ plan.budget
  pub limited_budget : plan.budget ≤ 10000000
  pub some_round : 1 ≤ length plan.rounds
  pub few_rounds : length plan.rounds ≤ 64
  pub each_round : list_all is_round plan.rounds ≡ true
  pub few_runs : runs_of plan.rounds ≤ 1024
