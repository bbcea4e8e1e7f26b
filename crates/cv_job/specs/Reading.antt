-- The job that a file is, or its first fault (docs/FORMATS.md, "Job").
use Rattle.std.specs.Prelude.{ℕ, nat_le, codes, if◌then◌else◌, List, Option, Some, None, is_some, Result, Ok, Err}
use Rattle.serde_json.specs.Data.{Data}
use Rattle.serde_json.specs.Find.{as_object, get}
use Rattle.cv_base.specs.declared.plan.Round.{Round}
use Rattle.cv_base.specs.PlanOf.{runs_of}
use Rattle.cv_job.specs.declared.job.JobFault.{JobFault}
use Rattle.cv_job.specs.declared.job.JobFault.TheVariants.{NotJson, NotObject, Field, TooManyRuns}
use Rattle.cv_job.specs.declared.job.JobField.{JobField}
use Rattle.cv_job.specs.declared.job.JobField.TheVariants.{Image, Workers, Checks, Budget, Rounds}
use Rattle.cv_job.specs.Fields.{number_in, text_in}
use Rattle.cv_job.specs.JobOf.{JobOf, job_with}
use Rattle.cv_job.specs.Json.{json_of}
use Rattle.cv_job.specs.Rounds.{rounds_of}

abbrev pub Reading : Type 0
Reading = Result JobOf JobFault

-- a field whose rule fails is the fault; else the fields after it are tested
abbrev pub field : {A : Type 0} → JobField → Option A → (A → Reading) → Reading
field name None rest = Err (Field name)
field name (Some x) rest = rest x

abbrev pub counted : JobOf → Reading
counted job = if nat_le (runs_of job.rounds) 1024 then Ok job else Err TooManyRuns

abbrev pub fields_of : Data → Reading
fields_of d =
    field Image (text_in 1 4096 (get (codes "image") d)) (λ (image : List ℕ).
    field Workers (number_in 1 16 (get (codes "workers") d)) (λ (workers : ℕ).
    field Checks (number_in 2 8 (get (codes "checks") d)) (λ (checks : ℕ).
    field Budget (number_in 1 10000000 (get (codes "budget") d)) (λ (budget : ℕ).
    field Rounds (rounds_of (get (codes "rounds") d)) (λ (rounds : List Round).
    counted (job_with image workers checks budget rounds))))))

abbrev pub reading_of_json : Option Data → Reading
reading_of_json None = Err NotJson
reading_of_json (Some d) = if is_some (as_object d) then fields_of d else Err NotObject

abbrev pub reading_of : List ℕ → Reading
reading_of bytes = reading_of_json (json_of bytes)
