-- The first of five fields that is not there.
use Rattle.std.proofs.Common.{◌≡◌, ℕ, List, Option, Some, None, ◌↔◌, arith, Err}
use Rattle.std.specs.Prelude.{is_some, [], ◌∷◌}
use Rattle.cv_base.specs.declared.plan.Round.{Round}
use Rattle.cv_job.specs.declared.job.JobFault.TheVariants.{Field}
use Rattle.cv_job.specs.declared.job.JobField.{JobField}
use Rattle.cv_job.specs.declared.job.JobField.TheVariants.{Image, Workers, Checks, Budget, Rounds}
use Rattle.cv_job.specs.FirstBroken.{first_broken}
use Rattle.cv_job.specs.JobOf.{job_with}
use Rattle.cv_job.specs.Reading.{Reading, field, counted}

abbrev read_from : Option (List ℕ) → Option ℕ → Option ℕ → Option ℕ → Option (List Round) → Reading
read_from image workers checks budget rounds =
    field Image image (λ (image : List ℕ).
    field Workers workers (λ (workers : ℕ).
    field Checks checks (λ (checks : ℕ).
    field Budget budget (λ (budget : ℕ).
    field Rounds rounds (λ (rounds : List Round).
    counted (job_with image workers checks budget rounds))))))

abbrev broken_from : Option (List ℕ) → Option ℕ → Option ℕ → Option ℕ → Option (List Round) → Option JobField
broken_from image workers checks budget rounds =
    first_broken ((Image, is_some image) ∷ (Workers, is_some workers) ∷ (Checks, is_some checks) ∷ (Budget, is_some budget) ∷ (Rounds, is_some rounds) ∷ [])

pub first_fault : (i : Option (List ℕ)) (w c b : Option ℕ) (r : Option (List Round)) (f : JobField) → (read_from i w c b r ≡ Err (Field f)) ↔ (broken_from i w c b r ≡ Some f)
first_fault None w c b r f = (λ e. grind (arith, e), λ e. grind (arith, e))
first_fault (Some i) None c b r f = (λ e. grind (arith, e), λ e. grind (arith, e))
first_fault (Some i) (Some w) None b r f = (λ e. grind (arith, e), λ e. grind (arith, e))
first_fault (Some i) (Some w) (Some c) None r f = (λ e. grind (arith, e), λ e. grind (arith, e))
first_fault (Some i) (Some w) (Some c) (Some b) None f = (λ e. grind (arith, e), λ e. grind (arith, e))
first_fault (Some i) (Some w) (Some c) (Some b) (Some r) f = (λ e. grind (arith, e), λ e. grind (arith, e))
