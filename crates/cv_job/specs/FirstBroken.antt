-- The rules of the fields in their order, and the first that fails (docs/FORMATS.md, "Job").
use Rattle.std.specs.Prelude.{Bool, true, false, codes, List, [], ◌∷◌, Option, Some, None, is_some}
use Rattle.serde_json.specs.Data.{Data}
use Rattle.serde_json.specs.Find.{get}
use Rattle.cv_job.specs.declared.job.JobField.{JobField}
use Rattle.cv_job.specs.declared.job.JobField.TheVariants.{Image, Workers, Checks, Budget, Rounds}
use Rattle.cv_job.specs.Fields.{number_in, text_in}
use Rattle.cv_job.specs.Rounds.{rounds_of}

-- each field, with whether its rule holds
abbrev pub rules_of : Data → List (JobField × Bool)
rules_of d =
    (Image, is_some (text_in 1 4096 (get (codes "image") d))) ∷
    (Workers, is_some (number_in 1 16 (get (codes "workers") d))) ∷
    (Checks, is_some (number_in 2 8 (get (codes "checks") d))) ∷
    (Budget, is_some (number_in 1 10000000 (get (codes "budget") d))) ∷
    (Rounds, is_some (rounds_of (get (codes "rounds") d))) ∷ []

abbrev pub first_broken : List (JobField × Bool) → Option JobField
first_broken [] = None
first_broken ((name, true) ∷ rest) = first_broken rest
first_broken ((name, false) ∷ rest) = Some name
