-- What reading answers: the definition's answer, or that memory was refused.
use Rattle.std.specs.Prelude.{◌≡◌, Option, Some, None, Result, Ok, Err, ⊤}
use Rattle.serde_json.specs.Data.{Data}
use Rattle.serde_json.specs.View.{view}
use Rattle.serde_json.specs.declared.value.Value.{Value}
use Rattle.cv_job.specs.declared.job.JobFail.{JobFail}
use Rattle.cv_job.specs.declared.job.JobFail.TheVariants.{Refused, NoMemory}
use Rattle.cv_job.specs.declared.job.JobFault.TheVariants.{NotJson}
use Rattle.cv_job.specs.JobOf.{JobOf}
use Rattle.cv_job.specs.Reading.{Reading}

abbrev pub Answers : Reading → Result JobOf JobFail → Type 0
Answers reading (Ok job) = reading ≡ Ok job
Answers reading (Err (Refused fault)) = reading ≡ Err fault
Answers reading (Err NoMemory) = ⊤

abbrev pub ReadsJson : Option Data → Result Value JobFail → Type 0
ReadsJson json (Ok value) = json ≡ Some (view value)
ReadsJson json (Err (Refused fault)) = (fault ≡ NotJson) × (json ≡ None)
ReadsJson json (Err NoMemory) = ⊤
