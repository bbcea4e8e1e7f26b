-- What a failure of a call below is told as.
use Rattle.cv_keep.specs.declared.errors.KeepFail.{KeepFail}
use Rattle.cv_keep.specs.declared.errors.KeepFail.TheVariants as keep
use Rattle.cv_resume.specs.declared.faults.KeptFail.{KeptFail}
use Rattle.cv_resume.specs.declared.faults.KeptFail.TheVariants as kept
use Rattle.cv_resume.specs.declared.faults.RestoreFail.{RestoreFail}
use Rattle.cv_resume.specs.declared.faults.RestoreFail.TheVariants as restore

abbrev pub from_keep : KeepFail → KeptFail
from_keep keep.DiskFault = kept.DiskFault
from_keep keep.NoMemory = kept.NoMemory

abbrev pub from_restore : RestoreFail → KeptFail
from_restore (restore.Refused fault) = kept.Refused fault
from_restore restore.NoMemory = kept.NoMemory
