-- What a part of a command answers, against what it has to come to.
use Rattle.std.specs.Prelude.{◌≡◌, ◌≢◌, ℕ, nat_lt, if◌then◌else◌, List, length, Option, Some, None, Result, Ok, Err, ◌⊎◌, [], string_bytes, IsTrue}
use Rattle.clearview.specs.declared.cause.Cause.{Cause}
use Rattle.clearview.specs.declared.files.Journal.{Journal}
use Rattle.clearview.specs.declared.judgement.Judgement.{Judgement}
use Rattle.clearview.specs.declared.judgement.Told.{Told}
use Rattle.clearview.specs.declared.cause.Cause.TheVariants as cause
use Rattle.std.specs.declared.string.String.{String}
use Rattle.std.specs.declared.alloc.Global.{Global}
use Rattle.cv_base.specs.declared.entries.Entry.{Entry}
use Rattle.cv_base.specs.Picture.{Picture}
use Rattle.cv_base.specs.PlanOf.{PlanOf}
use Rattle.cv_manager.specs.ManagerOf.{ManagerOf}
use Rattle.cv_job.specs.JobOf.{JobOf, plan_of}
use Rattle.clearview.specs.Causes.{IsFree, concerns}
use Rattle.clearview.specs.Verdict.{Verdict, and_then, image_in}
use Rattle.clearview.specs.Words.{Reads}

-- the value, or the cause against it; want of memory and a fault of the store are free
abbrev pub Gives : {A : Type 0} → Result A Cause → Result A Cause → Type 0
Gives wanted (Ok a) = wanted ≡ Ok a
Gives wanted (Err c) = (wanted ≡ Err c) ⊎ IsFree c

abbrev pub GivesText : Verdict → Result (String Global) Cause → Type 0
GivesText wanted (Ok s) = wanted ≡ Ok (string_bytes s)
GivesText wanted (Err c) = (wanted ≡ Err c) ⊎ IsFree c

-- the plan of a job that is read
abbrev pub plan_by : JobOf → (List ℕ → Option (List ℕ)) → Result PlanOf Cause
plan_by job file = and_then (image_in (file job.image)) (λ (picture : Picture). Ok (plan_of job picture))

-- the bytes of a file of at most `limit` bytes
abbrev pub bytes_in : ℕ → Cause → Option (List ℕ) → Result (List ℕ) Cause
bytes_in limit longer None = Err cause.FileMissing
bytes_in limit longer (Some bytes) = if nat_lt limit (length bytes) then Err longer else Ok bytes

-- why there are no bytes of a file: it has more than it may, or one of these
abbrev pub IsUnread : Cause → Cause → Type 0
IsUnread longer c = (c ≡ longer) ⊎ (c ≡ cause.FileMissing) ⊎ IsFree c

-- the causes that come before a text stands, of what is read
pub record IsEarly (r : Reads) (c : Cause) : Type 0 where
  pub reads : IsTrue (concerns r c)
  pub not_done : c ≢ cause.Done
  pub not_usage : c ≢ cause.Usage
  pub not_sink : c ≢ cause.SinkFault

-- of a book that was made with its text: its plan, its history and the text, or the cause against it
abbrev pub plan_made : Result (ManagerOf × String Global) Cause → Result PlanOf Cause
plan_made (Ok made) = Ok made.0.plan
plan_made (Err c) = Err c

abbrev pub past_made : Result (ManagerOf × String Global) Cause → List Entry
past_made (Ok made) = made.0.past
past_made (Err c) = []

abbrev pub text_made : Result (ManagerOf × String Global) Cause → Result (String Global) Cause
text_made (Ok made) = Ok made.1
text_made (Err c) = Err c

-- of what an audit has found with its text: the text, or the cause against it, and what was found
abbrev pub text_told : Result Told Cause → Result (List ℕ) Cause
text_told (Ok told) = Ok told.text
text_told (Err c) = Err c

abbrev pub found_told : Result Told Cause → Option Judgement
found_told (Ok told) = Some told.found
found_told (Err c) = None

-- of a report: its text and its entries, or the cause against it
abbrev pub report_told : Result Journal Cause → Result (List ℕ × List Entry) Cause
report_told (Ok report) = Ok (report.text, report.entries)
report_told (Err c) = Err c
