-- How a call ends, against what it has to come to (docs/FORMATS.md, "Causes and statuses").
use Rattle.std.specs.Prelude.{◌≡◌, ℕ, Bool, true, ◌||◌, List, Option, Ok, Err, ◌⊎◌}
use Rattle.cv_edge.specs.Edge.{Appends, AppendsPrefix, Keeps}
use Rattle.clearview.specs.declared.cause.Cause.{Cause}
use Rattle.clearview.specs.declared.cause.Cause.TheVariants as cause
use Rattle.clearview.specs.Verdict.{Verdict}
use Rattle.clearview.specs.Words.{Reads}

abbrev pub status_of : Cause → ℕ
status_of cause.Done = 0
status_of cause.Usage = 2
status_of cause.FileMissing = 12
status_of cause.JobLong = 3
status_of (cause.JobRefused f) = 3
status_of cause.ImageLong = 4
status_of (cause.ImageRefused f) = 4
status_of cause.AsmLong = 8
status_of (cause.AsmRefused f) = 8
status_of cause.ReportLong = 9
status_of (cause.ReportRefused f) = 9
status_of cause.NoMemory = 5
status_of cause.StoreFault = 6
status_of cause.SinkFault = 7
status_of cause.DiskFault = 10
status_of (cause.KeptRefused f) = 11

-- a cause against a file comes to a command that reads such a file
abbrev pub concerns : Reads → Cause → Bool
concerns r cause.Done = true
concerns r cause.Usage = true
concerns r cause.FileMissing = r.job || r.image || r.source || r.report
concerns r cause.JobLong = r.job
concerns r (cause.JobRefused f) = r.job
concerns r cause.ImageLong = r.image
concerns r (cause.ImageRefused f) = r.image
concerns r cause.AsmLong = r.source
concerns r (cause.AsmRefused f) = r.source
concerns r cause.ReportLong = r.report
concerns r (cause.ReportRefused f) = r.report
concerns r cause.NoMemory = true
concerns r cause.StoreFault = r.job || r.image || r.source || r.report
concerns r cause.SinkFault = true
concerns r cause.DiskFault = r.rounds
concerns r (cause.KeptRefused f) = r.rounds

-- want of memory, and a fault of the store, which has a clause of its own
abbrev pub IsFree : Cause → Type 0
IsFree c = (c ≡ cause.NoMemory) ⊎ (c ≡ cause.StoreFault)

-- what kept rounds come to, and the disk that they are on, which has clauses of its own
abbrev pub IsOfRounds : Cause → Type 0
IsOfRounds cause.DiskFault = Unit {0}
IsOfRounds (cause.KeptRefused f) = Unit {0}
IsOfRounds _ = ⊥

-- Done, a fault of the sink and what kept rounds come to come only where there is a text to write; any
-- other cause is the one against it, or free
abbrev pub Ends : Verdict → Cause → Type 0
Ends verdict cause.Done = (text : List ℕ) × (verdict ≡ Ok text)
Ends verdict cause.SinkFault = (text : List ℕ) × (verdict ≡ Ok text)
Ends verdict cause.DiskFault = (text : List ℕ) × (verdict ≡ Ok text)
Ends verdict (cause.KeptRefused f) = (text : List ℕ) × (verdict ≡ Ok text)
Ends verdict c = (verdict ≡ Err c) ⊎ IsFree c

-- with Done the whole text is written, with a fault of the sink a beginning of it, else nothing
abbrev pub Writes : Verdict → Cause → Option (List ℕ) → Option (List ℕ) → Type 0
Writes (Ok text) cause.Done old new = Appends old new text
Writes (Ok text) cause.SinkFault old new = AppendsPrefix old new text
Writes _ _ old new = Keeps old new

-- where the store doesn't tell, too, nothing is written but with Done or a fault of the sink
abbrev pub Silent : Cause → Option (List ℕ) → Option (List ℕ) → Type 0
Silent cause.Done old new = Unit {0}
Silent cause.SinkFault old new = Unit {0}
Silent _ old new = Keeps old new

-- where there is a text, and no fault of the store or the sink, want of memory alone, and what kept
-- rounds come to, keep it from being written
abbrev pub Completes : Verdict → Type 0 → Type 0 → Cause → Type 0
Completes verdict StoreRose SinkRose c =
    (text : List ℕ) → verdict ≡ Ok text → ¬ StoreRose → ¬ SinkRose → (c ≡ cause.Done) ⊎ (c ≡ cause.NoMemory) ⊎ IsOfRounds c
