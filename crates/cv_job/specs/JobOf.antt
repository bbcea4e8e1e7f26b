-- What a job holds, its limits, and the plan that it makes of an image (docs/FORMATS.md, "Job").
use Rattle.std.specs.Prelude.{◌≡◌, ℕ, true, ◌≤◌, List, length}
use Rattle.std.specs.List.{list_all}
use Rattle.cv_base.specs.declared.plan.Round.{Round}
use Rattle.cv_base.specs.Picture.{Picture}
use Rattle.cv_base.specs.PlanOf.{PlanOf, is_round, runs_of}

pub record JobOf : Type 0 where
  pub image : List ℕ
  pub workers : ℕ
  pub checks : ℕ
  pub budget : ℕ
  pub rounds : List Round

abbrev pub job_with : List ℕ → ℕ → ℕ → ℕ → List Round → JobOf
job_with image workers checks budget rounds =
    record { image = image; workers = workers; checks = checks; budget = budget; rounds = rounds }

pub record IsJob (job : JobOf) : Type 0 where
  pub some_name : 1 ≤ length job.image
  pub short_name : length job.image ≤ 4096
  pub some_worker : 1 ≤ job.workers
  pub few_workers : job.workers ≤ 16
  pub some_checks : 2 ≤ job.checks
  pub few_checks : job.checks ≤ 8
  pub some_budget : 1 ≤ job.budget
  pub limited_budget : job.budget ≤ 10000000
  pub some_round : 1 ≤ length job.rounds
  pub few_rounds : length job.rounds ≤ 64
  pub each_round : list_all is_round job.rounds ≡ true
  pub few_runs : runs_of job.rounds ≤ 1024

-- the plan of a job, once its image is there
abbrev pub plan_of : JobOf → Picture → PlanOf
plan_of job image =
    record { image = image; workers = job.workers; checks = job.checks; budget = job.budget; rounds = job.rounds }
