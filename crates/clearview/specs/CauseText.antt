-- The line on standard error that tells a cause, without its line feed (docs/FORMATS.md, "Lines on
-- standard error").
use Rattle.std.specs.Prelude.{ℕ, List, ◌++◌, codes}
use Rattle.cv_asm.specs.FaultText as asm
use Rattle.cv_base.specs.FaultText as image
use Rattle.cv_job.specs.JobFaultText as job
use Rattle.cv_journal.specs.JournalFaultText as journal
use Rattle.cv_resume.specs.KeptFaultText as kept
use Rattle.clearview.specs.declared.cause.Cause.{Cause}
use Rattle.clearview.specs.declared.cause.Cause.TheVariants as cause

abbrev pub cause_text : Cause → List ℕ
cause_text cause.Done = codes "clearview: done"
cause_text cause.Usage = codes "clearview: usage"
cause_text cause.FileMissing = codes "clearview: no such file"
cause_text cause.JobLong = codes "clearview: job too long"
cause_text (cause.JobRefused f) = codes "clearview: job refused: " ++ job.fault_text f
cause_text cause.ImageLong = codes "clearview: image too long"
cause_text (cause.ImageRefused f) = codes "clearview: image refused: " ++ image.fault_text f
cause_text cause.AsmLong = codes "clearview: source too long"
cause_text (cause.AsmRefused f) = codes "clearview: source refused: " ++ asm.asm_fault_text f
cause_text cause.ReportLong = codes "clearview: report too long"
cause_text (cause.ReportRefused f) = codes "clearview: report refused: " ++ journal.fault_text f
cause_text cause.NoMemory = codes "clearview: out of memory"
cause_text cause.StoreFault = codes "clearview: cannot read"
cause_text cause.SinkFault = codes "clearview: cannot write"
cause_text cause.DiskFault = codes "clearview: disk failed"
cause_text (cause.KeptRefused f) = codes "clearview: kept history refused: " ++ kept.fault_text f
