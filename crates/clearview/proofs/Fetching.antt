-- What the bytes of a file say of its image, its job, its source and its report.
use Rattle.std.proofs.Common.{◌≡◌, ℕ, List, Option, Some, None, Result, Ok, Err, IfSome, arith, inl, inr, ap, sym, refl, ◌∙◌, subst}
use Rattle.std.proofs.lemmas.Bool.Decides.{nat_tests}
use Rattle.cv_base.specs.declared.entries.Entry.{Entry}
use Rattle.cv_base.specs.Picture.{Picture}
use Rattle.cv_base.specs.PlanOf.{PlanOf}
use Rattle.cv_edge.specs.Edge.{Held, FetchesOnce}
use Rattle.cv_job.specs.JobOf.{JobOf, plan_of}
use Rattle.cv_job.specs.Reading.{reading_of}
use Rattle.cv_asm.specs.Source.{source_of}
use Rattle.cv_journal.specs.JournalOf.{journal_of}
use Rattle.clearview.specs.declared.cause.Cause.{Cause}
use Rattle.clearview.specs.declared.cause.Cause.TheVariants as cause
use Rattle.clearview.specs.Gives.{Gives, bytes_in, plan_by}
use Rattle.clearview.specs.Verdict.{image_in, image_reading, job_in, journal_in, plan_in, refused, report_in, source_in}

image_whole : (file : Option (List ℕ)) (bytes : List ℕ) → bytes_in 4194304 cause.ImageLong file ≡ Ok bytes
    → image_in file ≡ refused (λ f. cause.ImageRefused f) (image_reading bytes)
image_whole None bytes e = cc e
image_whole (Some all) bytes e = grind (arith, nat_tests, e)

image_against : (file : Option (List ℕ)) (c : Cause) → bytes_in 4194304 cause.ImageLong file ≡ Err c → image_in file ≡ Err c
image_against None c e = cc e
image_against (Some all) c e = grind (arith, nat_tests, e)

job_whole : (file : Option (List ℕ)) (bytes : List ℕ) → bytes_in 16777216 cause.JobLong file ≡ Ok bytes
    → job_in file ≡ refused (λ f. cause.JobRefused f) (reading_of bytes)
job_whole None bytes e = cc e
job_whole (Some all) bytes e = grind (arith, nat_tests, e)

job_against : (file : Option (List ℕ)) (c : Cause) → bytes_in 16777216 cause.JobLong file ≡ Err c → job_in file ≡ Err c
job_against None c e = cc e
job_against (Some all) c e = grind (arith, nat_tests, e)

source_whole : (file : Option (List ℕ)) (bytes : List ℕ) → bytes_in 4194304 cause.AsmLong file ≡ Ok bytes
    → source_in file ≡ refused (λ f. cause.AsmRefused f) (source_of bytes)
source_whole None bytes e = cc e
source_whole (Some all) bytes e = grind (arith, nat_tests, e)

source_against : (file : Option (List ℕ)) (c : Cause) → bytes_in 4194304 cause.AsmLong file ≡ Err c → source_in file ≡ Err c
source_against None c e = cc e
source_against (Some all) c e = grind (arith, nat_tests, e)

report_whole : (file : Option (List ℕ)) (bytes : List ℕ) → bytes_in 268435456 cause.ReportLong file ≡ Ok bytes → report_in file ≡ journal_in bytes
report_whole None bytes e = cc e
report_whole (Some all) bytes e = grind (arith, nat_tests, e)

report_against : (file : Option (List ℕ)) (c : Cause) → bytes_in 268435456 cause.ReportLong file ≡ Err c → report_in file ≡ Err c
report_against None c e = cc e
report_against (Some all) c e = grind (arith, nat_tests, e)

-- where the bytes are read
pub image_read : (told : Option Held) (name bytes : List ℕ) (r : Result Picture Cause)
    → IfSome told (λ held. Gives (bytes_in 4194304 cause.ImageLong (held.file name)) (Ok bytes))
    → Gives (refused (λ f. cause.ImageRefused f) (image_reading bytes)) r
    → IfSome told (λ held. Gives (image_in (held.file name)) r)
image_read None name bytes r whole gives = tt
image_read (Some held) name bytes r whole gives = rw (image_whole (held.file name) bytes whole) gives

pub job_read : (told : Option Held) (name bytes : List ℕ) (r : Result JobOf Cause)
    → IfSome told (λ held. Gives (bytes_in 16777216 cause.JobLong (held.file name)) (Ok bytes))
    → Gives (refused (λ f. cause.JobRefused f) (reading_of bytes)) r
    → IfSome told (λ held. Gives (job_in (held.file name)) r)
job_read None name bytes r whole gives = tt
job_read (Some held) name bytes r whole gives = rw (job_whole (held.file name) bytes whole) gives

pub source_read : (told : Option Held) (name bytes : List ℕ) (r : Result (List ℕ) Cause)
    → IfSome told (λ held. Gives (bytes_in 4194304 cause.AsmLong (held.file name)) (Ok bytes))
    → Gives (refused (λ f. cause.AsmRefused f) (source_of bytes)) r
    → IfSome told (λ held. Gives (source_in (held.file name)) r)
source_read None name bytes r whole gives = tt
source_read (Some held) name bytes r whole gives = rw (source_whole (held.file name) bytes whole) gives

pub report_read : (told : Option Held) (name bytes : List ℕ) (entries : List Entry)
    → IfSome told (λ held. Gives (bytes_in 268435456 cause.ReportLong (held.file name)) (Ok bytes))
    → Gives (refused (λ f. cause.ReportRefused f) (journal_of bytes)) (Ok entries)
    → IfSome told (λ held. Gives (report_in (held.file name)) (Ok (bytes, entries)))
report_read None name bytes entries whole gives = tt
report_read (Some held) name bytes entries whole gives = rw (report_whole (held.file name) bytes whole, gives) refl

pub report_refused : (told : Option Held) (name bytes : List ℕ) (c : Cause)
    → IfSome told (λ held. Gives (bytes_in 268435456 cause.ReportLong (held.file name)) (Ok bytes))
    → Gives (refused (λ f. cause.ReportRefused f) (journal_of bytes)) (Err c)
    → IfSome told (λ held. Gives (report_in (held.file name)) (Err c))
report_refused None name bytes c whole against = tt
report_refused (Some held) name bytes c whole (inl e) = inl (rw (report_whole (held.file name) bytes whole, e) refl)
report_refused (Some held) name bytes c whole (inr free) = inr free

-- where there are none
pub image_unread : (told : Option Held) (name : List ℕ) (c : Cause)
    → IfSome told (λ held. Gives (bytes_in 4194304 cause.ImageLong (held.file name)) (Err c))
    → IfSome told (λ held. Gives (image_in (held.file name)) (Err c))
image_unread None name c against = tt
image_unread (Some held) name c (inl e) = inl (image_against (held.file name) c e)
image_unread (Some held) name c (inr free) = inr free

pub job_unread : (told : Option Held) (name : List ℕ) (c : Cause)
    → IfSome told (λ held. Gives (bytes_in 16777216 cause.JobLong (held.file name)) (Err c))
    → IfSome told (λ held. Gives (job_in (held.file name)) (Err c))
job_unread None name c against = tt
job_unread (Some held) name c (inl e) = inl (job_against (held.file name) c e)
job_unread (Some held) name c (inr free) = inr free

pub source_unread : (told : Option Held) (name : List ℕ) (c : Cause)
    → IfSome told (λ held. Gives (bytes_in 4194304 cause.AsmLong (held.file name)) (Err c))
    → IfSome told (λ held. Gives (source_in (held.file name)) (Err c))
source_unread None name c against = tt
source_unread (Some held) name c (inl e) = inl (source_against (held.file name) c e)
source_unread (Some held) name c (inr free) = inr free

pub report_unread : (told : Option Held) (name : List ℕ) (c : Cause)
    → IfSome told (λ held. Gives (bytes_in 268435456 cause.ReportLong (held.file name)) (Err c))
    → IfSome told (λ held. Gives (report_in (held.file name)) (Err c))
report_unread None name c against = tt
report_unread (Some held) name c (inl e) = inl (report_against (held.file name) c e)
report_unread (Some held) name c (inr free) = inr free

-- ---- plans

pub plan_made : (told : Option Held) (order : JobOf) (picture : Picture) (plan : PlanOf)
    → IfSome told (λ held. Gives (image_in (held.file order.image)) (Ok picture))
    → plan ≡ plan_of order picture
    → IfSome told (λ held. Gives (plan_by order held.file) (Ok plan))
plan_made None order picture plan gives e = tt
plan_made (Some held) order picture plan gives e = rw (gives, e) refl

pub plan_against : (told : Option Held) (order : JobOf) (c : Cause)
    → IfSome told (λ held. Gives (image_in (held.file order.image)) (Err c))
    → IfSome told (λ held. Gives (plan_by order held.file) (Err c))
plan_against None order c gives = tt
plan_against (Some held) order c (inl e) = inl (rw e refl)
plan_against (Some held) order c (inr free) = inr free

plan_of_job : (file : List ℕ → Option (List ℕ)) (job : List ℕ) (order : JobOf) → job_in (file job) ≡ Ok order
    → plan_in file job ≡ plan_by order file
plan_of_job file job order e = rw e refl

pub plan_went_on : (told left : Option Held) (job : List ℕ) (order : JobOf) (r : Result PlanOf Cause)
    → FetchesOnce told left
    → IfSome told (λ held. Gives (job_in (held.file job)) (Ok order))
    → IfSome left (λ held. Gives (plan_by order held.file) r)
    → IfSome told (λ held. Gives (plan_in held.file job) r)
plan_went_on None left job order r once gives made = tt
plan_went_on (Some held) None job order r once gives made = absurd once
plan_went_on (Some held) (Some later) job order r once gives made =
    let e = plan_of_job held.file job order gives ∙ ap (plan_by order) (sym once.same) in
    subst (λ (v : Result PlanOf Cause). Gives v r) (sym e) made

pub plan_stopped : (told : Option Held) (job : List ℕ) (c : Cause)
    → IfSome told (λ held. Gives (job_in (held.file job)) (Err c))
    → IfSome told (λ held. Gives (plan_in held.file job) (Err c))
plan_stopped None job c gives = tt
plan_stopped (Some held) job c (inl e) = inl (rw e refl)
plan_stopped (Some held) job c (inr free) = inr free
