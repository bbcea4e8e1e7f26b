-- Why a text is no report with a journal, as text (docs/FORMATS.md, "Lines on standard error").
use Rattle.std.specs.Prelude.{ℕ, List, ◌++◌, codes}
use Rattle.std.specs.Fmt.{decimal}
use Rattle.cv_journal.specs.declared.faults.JournalFault.{JournalFault}
use Rattle.cv_journal.specs.declared.faults.JournalFault.TheVariants.{NotReport, OldReport, BadEntry}

abbrev pub fault_text : JournalFault → List ℕ
fault_text NotReport = codes "not-report"
fault_text OldReport = codes "old-report"
fault_text (BadEntry number) = codes "bad-entry " ++ decimal number
