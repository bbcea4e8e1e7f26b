-- What a call has come to: one relation between the command that was asked for, what the call met
-- outside, and what it answers (README, "The headline").
use Rattle.std.specs.Prelude.{◌≡◌, ℕ, ◌+◌, List, [], Option, Some, None, Ok, ◌⊎◌, ◌↔◌, IfSome, IsSome, IsTrue}
use Rattle.cv_base.specs.declared.entries.Entry.{Entry}
use Rattle.cv_desk.specs.Openings.{IsUpTo}
use Rattle.cv_edge.specs.Edge.{FetchesUpTo, HasCause, Held, Rose}
use Rattle.cv_histories.specs.Unfired.{UnfiredArePlain}
use Rattle.cv_histories.specs.Legal.{IsLegal, IsWhole}
use Rattle.cv_histories.specs.Serial.{serial}
use Rattle.cv_manager.specs.ManagerOf.{ManagerOf}
use Rattle.cv_resume.specs.declared.faults.KeptFault.TheVariants as fault
use Rattle.clearview.specs.declared.cause.Cause.{Cause}
use Rattle.clearview.specs.declared.cause.Cause.TheVariants as cause
use Rattle.clearview.specs.declared.judgement.Judgement.{Judgement}
use Rattle.clearview.specs.Causes.{Completes, concerns, Ends, Silent, Writes}
use Rattle.clearview.specs.Verdict.{IsFound, book_text, files_for, plan_asked, verdict_by}
use Rattle.clearview.specs.Words.{Command, files_named, judges_report, keeps_book, reads_of}

-- one posted history of all runs of the plan, however its instances interleaved: each entry is that of
-- an honest run, under recorded versions that never fall; where no repair fired it is the unpatched
-- program's
pub record IsPosted (b : ManagerOf) : Type 0 where
  pub legal : IsLegal b.plan b.past
  pub whole : IsWhole b.plan b.past
  pub unfired : UnfiredArePlain b.plan b.past
  -- one worker has one way to go
  pub serial : b.plan.workers ≡ 1 → b.past ≡ serial b.plan

-- so far one posted history of all runs of the rounds up to this one, and of no others
pub record IsPostedUpTo (round : ℕ) (b : ManagerOf) : Type 0 where
  pub legal : IsLegal b.plan b.past
  pub up_to : IsUpTo b.plan (round + 1) b.past
  pub unfired : UnfiredArePlain b.plan b.past

-- the book of a call that ended so: of all runs, but where the entry lines of a round were too long to
-- be kept
abbrev pub IsBookOf : Cause → ManagerOf → Type 0
IsBookOf (cause.KeptRefused (fault.TooLong round)) b = IsPostedUpTo round b
IsBookOf _ b = IsPosted b

-- whether a call that ended so has a book
abbrev pub HasBook : Cause → Type 0
HasBook cause.Done = Unit {0}
HasBook cause.SinkFault = Unit {0}
HasBook (cause.KeptRefused (fault.TooLong round)) = Unit {0}
HasBook _ = ⊥

-- the posted history; none where no book was made
abbrev pub past_of : Option ManagerOf → List Entry
past_of None = []
past_of (Some b) = b.past

-- what lies outside of a call: what the store tells, what the sink has written, and their counts of
-- faults
pub record Outside : Type 0 where
  pub told : Option Held
  pub store_faults : ℕ
  pub written : Option (List ℕ)
  pub sink_faults : ℕ

abbrev pub outside : Option Held → ℕ → Option (List ℕ) → ℕ → Outside
outside told store_faults written sink_faults = record { told = told; store_faults = store_faults; written = written; sink_faults = sink_faults }

-- what a call for a command has come to, with what was outside before and after it: how it ended, the
-- book of the runs that it posted, and what it found of a report that it judged
pub record Comes (asked : Option Command) (before after : Outside) (ended : Cause) (made : Option ManagerOf) (found : Option Judgement) : Type 0 where
  -- the book is that of a posted history
  pub posted : IfSome made (IsBookOf ended)
  -- what is written is the text of its plan and history
  pub report : IfSome made (λ b. Writes (Ok (book_text asked b.plan b.past)) ended before.written after.written)
  -- its plan is the one that the files hold, or that a drill's number makes
  pub plan : IfSome (files_for asked before.told) (λ file. IfSome made (λ b. plan_asked asked file ≡ Ok b.plan))
  -- there is a book exactly where runs were posted, and their text was made or a round was too long
  pub book : IsSome made ↔ (IsTrue (keeps_book asked) × HasBook ended)
  -- what was found of a report is so, and is found exactly where it is written
  pub judged : IfSome (files_for asked before.told) (λ file. IfSome found (IsFound asked file))
  pub found_is : IsSome found ↔ (IsTrue (judges_report asked) × ((ended ≡ cause.Done) ⊎ (ended ≡ cause.SinkFault)))
  pub usage : (ended ≡ cause.Usage) ↔ (asked ≡ None)
  -- and no cause is against a file that the command does not read
  pub reads : IsTrue (concerns (reads_of asked) ended)
  -- each cause comes exactly where the verdict has it
  pub ends : IfSome (files_for asked before.told) (λ file. Ends (verdict_by asked file (past_of made) found) ended)
  pub writes : IfSome (files_for asked before.told) (λ file. Writes (verdict_by asked file (past_of made) found) ended before.written after.written)
  pub complete : IfSome (files_for asked before.told) (λ file. Completes (verdict_by asked file (past_of made) found) (Rose before.store_faults after.store_faults) (Rose before.sink_faults after.sink_faults) ended)
  -- nothing is written but the text, whatever the store tells
  pub silent : Silent ended before.written after.written
  pub store_fault : HasCause before.store_faults after.store_faults (ended ≡ cause.StoreFault)
  pub sink_fault : HasCause before.sink_faults after.sink_faults (ended ≡ cause.SinkFault)
  -- each file is fetched once at most
  pub fetches : FetchesUpTo (files_named asked) before.told after.told
