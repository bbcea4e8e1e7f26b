-- The cause that a failure of a call below is.
use Rattle.cv_asm.specs.declared.fault.AsmFail.{AsmFail}
use Rattle.cv_asm.specs.declared.fault.AsmFail.TheVariants as asm
use Rattle.cv_base.specs.declared.image.ImageFail.{ImageFail}
use Rattle.cv_base.specs.declared.image.ImageFail.TheVariants as image
use Rattle.cv_edge.specs.declared.store.FetchFail.{FetchFail}
use Rattle.cv_edge.specs.declared.store.FetchFail.TheVariants as fetch
use Rattle.cv_job.specs.declared.job.JobFail.{JobFail}
use Rattle.cv_job.specs.declared.job.JobFail.TheVariants as job
use Rattle.cv_journal.specs.declared.faults.JournalFail.{JournalFail}
use Rattle.cv_journal.specs.declared.faults.JournalFail.TheVariants as journal
use Rattle.clearview.specs.declared.cause.Cause.{Cause}
use Rattle.clearview.specs.declared.cause.Cause.TheVariants as cause

abbrev pub from_fetch : FetchFail → Cause
from_fetch fetch.Failed = cause.StoreFault
from_fetch fetch.NoMemory = cause.NoMemory

abbrev pub from_image : ImageFail → Cause
from_image (image.Refused fault) = cause.ImageRefused fault
from_image image.NoMemory = cause.NoMemory

abbrev pub from_job : JobFail → Cause
from_job (job.Refused fault) = cause.JobRefused fault
from_job job.NoMemory = cause.NoMemory

abbrev pub from_asm : AsmFail → Cause
from_asm (asm.Refused fault) = cause.AsmRefused fault
from_asm asm.NoMemory = cause.NoMemory

abbrev pub from_journal : JournalFail → Cause
from_journal (journal.Refused fault) = cause.ReportRefused fault
from_journal journal.NoMemory = cause.NoMemory
