-- What a command has to come to: the text to write, or the cause against it, in the order in
-- which the causes are tested (docs/FORMATS.md, "Causes and statuses").
use Rattle.std.specs.Prelude.{ℕ, nat_lt, if◌then◌else◌, List, [], ◌∷◌, length, take, Option, Some, None, Result, Ok, Err}
use Rattle.std.specs.List.{flat_map}
use Rattle.std.specs.Str.{bytes_eq}
use Rattle.cv_asm.specs.Listing.{listing_of}
use Rattle.cv_asm.specs.Source.{source_of}
use Rattle.cv_base.specs.declared.image.ImageFault.{ImageFault}
use Rattle.cv_base.specs.Picture.{Picture}
use Rattle.cv_edge.specs.Edge.{Held}
use Rattle.cv_elf.specs.ElfReading.{elf_reading}
use Rattle.cv_image.specs.FlatReading.{flat_reading}
use Rattle.cv_job.specs.JobOf.{JobOf, plan_of}
use Rattle.cv_job.specs.Reading.{reading_of}
use Rattle.cv_journal.specs.JournalOf.{journal_of}
use Rattle.cv_mem.specs.Memory.{spelled}
use Rattle.cv_runs.specs.PlainText.{plain_text}
use Rattle.cv_base.specs.PlanOf.{PlanOf}
use Rattle.cv_base.specs.declared.entries.Entry.{Entry}
use Rattle.cv_histories.specs.DrillPlan.{drill_plan}
use Rattle.cv_histories.specs.OtherTexts.{drill_text, infer_text}
use Rattle.cv_histories.specs.Report.{report}
use Rattle.clearview.specs.CheckText.{check_text}
use Rattle.clearview.specs.Judged.{IsJudgedIn, judged_text}
use Rattle.clearview.specs.Replayed.{replayed_text}
use Rattle.clearview.specs.declared.cause.Cause.{Cause}
use Rattle.clearview.specs.declared.cause.Cause.TheVariants as cause
use Rattle.clearview.specs.declared.judgement.Judgement.{Judgement}
use Rattle.clearview.specs.Words.{Command, Plain, Check, Infer, Run, Kept, Drill, Asm, Listing, Audit, Replay}

abbrev pub Verdict : Type 0
Verdict = Result (List ℕ) Cause

-- a cause stands; else the text goes on from what there is
abbrev pub and_then : {A B : Type 0} → Result A Cause → (A → Result B Cause) → Result B Cause
and_then (Ok a) next = next a
and_then (Err c) next = Err c

abbrev pub refused : {A F : Type 0} → (F → Cause) → Result A F → Result A Cause
refused why (Ok a) = Ok a
refused why (Err f) = Err (why f)

-- a file that begins with 7F 45 4C 46 is read as ELF, every other as words
abbrev pub image_reading : List ℕ → Result Picture ImageFault
image_reading bytes =
    if bytes_eq (take 4 bytes) (0x7f ∷ 0x45 ∷ 0x4c ∷ 0x46 ∷ []) then elf_reading bytes else flat_reading bytes

-- the image that a file holds; None where there is no such file
abbrev pub image_in : Option (List ℕ) → Result Picture Cause
image_in None = Err cause.FileMissing
image_in (Some bytes) =
    if nat_lt 4194304 (length bytes) then Err cause.ImageLong
    else refused (λ f. cause.ImageRefused f) (image_reading bytes)

-- the job that a file holds
abbrev pub job_in : Option (List ℕ) → Result JobOf Cause
job_in None = Err cause.FileMissing
job_in (Some bytes) =
    if nat_lt 16777216 (length bytes) then Err cause.JobLong
    else refused (λ f. cause.JobRefused f) (reading_of bytes)

-- the words of the source that a file holds
abbrev pub source_in : Option (List ℕ) → Result (List ℕ) Cause
source_in None = Err cause.FileMissing
source_in (Some bytes) =
    if nat_lt 4194304 (length bytes) then Err cause.AsmLong
    else refused (λ f. cause.AsmRefused f) (source_of bytes)

-- the journal of a report, beside its text
abbrev pub journal_in : List ℕ → Result (List ℕ × List Entry) Cause
journal_in text = and_then (refused (λ f. cause.ReportRefused f) (journal_of text)) (λ (entries : List Entry). Ok (text, entries))

-- the report that a file holds
abbrev pub report_in : Option (List ℕ) → Result (List ℕ × List Entry) Cause
report_in None = Err cause.FileMissing
report_in (Some bytes) = if nat_lt 268435456 (length bytes) then Err cause.ReportLong else journal_in bytes

-- the plan of a job's file and its image's file
abbrev pub plan_in : (List ℕ → Option (List ℕ)) → List ℕ → Result PlanOf Cause
plan_in file job =
    and_then (job_in (file job)) (λ (order : JobOf).
    and_then (image_in (file order.image)) (λ (picture : Picture). Ok (plan_of order picture)))

-- the plan of a drill, which opens only where it is asked to: its learn runs would be computed
-- wherever it stands
unfoldable pub drilled : ℕ → ℕ → PlanOf
drilled number runs = drill_plan number runs

-- the plan of a command whose runs are posted to a book
abbrev pub plan_asked : Option Command → (List ℕ → Option (List ℕ)) → Result PlanOf Cause
plan_asked (Some (Run job)) file = plan_in file job
plan_asked (Some (Kept job)) file = plan_in file job
plan_asked (Some (Drill number runs)) file = Ok (drilled number runs)
plan_asked _ file = Err cause.Usage

-- what such a command writes of its plan and of the history of all runs
abbrev pub book_text : Option Command → PlanOf → List Entry → List ℕ
book_text (Some (Run job)) plan past = report plan past
book_text (Some (Kept job)) plan past = report plan past
book_text (Some (Drill number runs)) plan past = drill_text plan past
book_text _ plan past = []

-- the files that a store tells
abbrev pub told_files : Option Held → Option (List ℕ → Option (List ℕ))
told_files None = None
told_files (Some held) = Some held.file

-- the files, as far as they matter to a command: one that names none has none to wait for
abbrev pub files_for : Option Command → Option Held → Option (List ℕ → Option (List ℕ))
files_for None told = Some (λ name. None)
files_for (Some (Drill number runs)) told = Some (λ name. None)
files_for _ told = told_files told

-- what a command has to come to, where the history of its runs, if it posts any, is `past`, and where
-- it has said `said` of a report, if it judges one
abbrev pub verdict_by : Option Command → (List ℕ → Option (List ℕ)) → List Entry → Option Judgement → Verdict
verdict_by None file past said = Err cause.Usage
verdict_by (Some (Plain image budget input)) file past said =
    and_then (image_in (file image)) (λ (picture : Picture). Ok (plain_text picture input budget))
verdict_by (Some (Check job)) file past said = and_then (plan_in file job) (λ (plan : PlanOf). Ok (check_text plan))
verdict_by (Some (Infer job)) file past said = and_then (plan_in file job) (λ (plan : PlanOf). Ok (infer_text plan))
verdict_by (Some (Run job)) file past said = and_then (plan_in file job) (λ (plan : PlanOf). Ok (report plan past))
verdict_by (Some (Kept job)) file past said = and_then (plan_in file job) (λ (plan : PlanOf). Ok (report plan past))
verdict_by (Some (Drill number runs)) file past said = Ok (drill_text (drilled number runs) past)
verdict_by (Some (Asm source)) file past said = and_then (source_in (file source)) (λ words. Ok (flat_map (spelled 4) words))
verdict_by (Some (Listing image)) file past said =
    and_then (image_in (file image)) (λ (picture : Picture). Ok (listing_of picture.words))
verdict_by (Some (Audit job name)) file past said =
    and_then (plan_in file job) (λ (plan : PlanOf).
    and_then (report_in (file name)) (λ (report : List ℕ × List Entry). Ok (judged_text plan report.0 report.1 said)))
verdict_by (Some (Replay job name run turn)) file past said =
    and_then (plan_in file job) (λ (plan : PlanOf).
    and_then (report_in (file name)) (λ (report : List ℕ × List Entry). Ok (replayed_text plan report.1 run turn said)))

-- what is said of a report is so of the files
abbrev pub IsFound : Option Command → (List ℕ → Option (List ℕ)) → Judgement → Type 0
IsFound (Some (Audit job name)) file said = IsJudgedIn (plan_in file job) (report_in (file name)) said
IsFound (Some (Replay job name run turn)) file said = IsJudgedIn (plan_in file job) (report_in (file name)) said
IsFound _ file said = ⊥
