-- Why a file is no job, as text (docs/FORMATS.md, "Lines on standard error").
use Rattle.std.specs.Prelude.{ℕ, List, ◌++◌, codes}
use Rattle.cv_job.specs.declared.job.JobFault.{JobFault}
use Rattle.cv_job.specs.declared.job.JobFault.TheVariants.{NotJson, NotObject, Field, TooManyRuns}
use Rattle.cv_job.specs.declared.job.JobField.{JobField}
use Rattle.cv_job.specs.declared.job.JobField.TheVariants.{Image, Workers, Checks, Budget, Rounds}

abbrev pub field_text : JobField → List ℕ
field_text Image = codes "image"
field_text Workers = codes "workers"
field_text Checks = codes "checks"
field_text Budget = codes "budget"
field_text Rounds = codes "rounds"

abbrev pub fault_text : JobFault → List ℕ
fault_text NotJson = codes "not-json"
fault_text NotObject = codes "not-object"
fault_text (Field name) = codes "field " ++ field_text name
fault_text TooManyRuns = codes "too-many-runs"
