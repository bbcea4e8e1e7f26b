-- The causes that come before a text stands, by what is read.
use Rattle.std.proofs.Common.{IsTrue, inl, inr, refl, sym, subst}
use Rattle.clearview.specs.declared.cause.Cause.{Cause}
use Rattle.clearview.specs.declared.cause.Cause.TheVariants as cause
use Rattle.clearview.specs.Causes.{concerns}
use Rattle.clearview.specs.Gives.{IsEarly, IsUnread}
use Rattle.clearview.specs.Words.{Reads, a_plan, a_report, a_source, an_image}

no_memory : (r : Reads) → IsEarly r cause.NoMemory
no_memory r = record { reads = refl; not_done = λ e. absurd (cc e); not_usage = λ e. absurd (cc e); not_sink = λ e. absurd (cc e) }

store_fault : (r : Reads) → IsTrue (concerns r cause.StoreFault) → IsEarly r cause.StoreFault
store_fault r file = record { reads = file; not_done = λ e. absurd (cc e); not_usage = λ e. absurd (cc e); not_sink = λ e. absurd (cc e) }

missing : (r : Reads) → IsTrue (concerns r cause.StoreFault) → IsEarly r cause.FileMissing
missing r file = record { reads = file; not_done = λ e. absurd (cc e); not_usage = λ e. absurd (cc e); not_sink = λ e. absurd (cc e) }

unread : (r : Reads) (longer c : Cause) → IsTrue (concerns r cause.StoreFault) → IsEarly r longer → IsUnread longer c → IsEarly r c
unread r longer c file early (inl e) = subst (IsEarly r) (sym e) early
unread r longer c file early (inr (inl e)) = subst (IsEarly r) (sym e) (missing r file)
unread r longer c file early (inr (inr (inl e))) = subst (IsEarly r) (sym e) (no_memory r)
unread r longer c file early (inr (inr (inr e))) = subst (IsEarly r) (sym e) (store_fault r file)

long_image : IsEarly an_image cause.ImageLong
long_image = record { reads = refl; not_done = λ e. absurd (cc e); not_usage = λ e. absurd (cc e); not_sink = λ e. absurd (cc e) }

long_job : IsEarly a_plan cause.JobLong
long_job = record { reads = refl; not_done = λ e. absurd (cc e); not_usage = λ e. absurd (cc e); not_sink = λ e. absurd (cc e) }

long_source : IsEarly a_source cause.AsmLong
long_source = record { reads = refl; not_done = λ e. absurd (cc e); not_usage = λ e. absurd (cc e); not_sink = λ e. absurd (cc e) }

long_report : IsEarly a_report cause.ReportLong
long_report = record { reads = refl; not_done = λ e. absurd (cc e); not_usage = λ e. absurd (cc e); not_sink = λ e. absurd (cc e) }

pub unread_image : (c : Cause) → IsUnread cause.ImageLong c → IsEarly an_image c
unread_image c is = unread an_image cause.ImageLong c refl long_image is

pub unread_job : (c : Cause) → IsUnread cause.JobLong c → IsEarly a_plan c
unread_job c is = unread a_plan cause.JobLong c refl long_job is

pub unread_source : (c : Cause) → IsUnread cause.AsmLong c → IsEarly a_source c
unread_source c is = unread a_source cause.AsmLong c refl long_source is

pub unread_report : (c : Cause) → IsUnread cause.ReportLong c → IsEarly a_report c
unread_report c is = unread a_report cause.ReportLong c refl long_report is

-- what is against an image is against a plan
read_too : (c : Cause) → IsTrue (concerns an_image c) → IsTrue (concerns a_plan c)
read_too cause.Done is = refl
read_too cause.Usage is = refl
read_too cause.FileMissing is = refl
read_too cause.JobLong is = refl
read_too (cause.JobRefused f) is = refl
read_too cause.ImageLong is = refl
read_too (cause.ImageRefused f) is = refl
read_too cause.AsmLong is = is
read_too (cause.AsmRefused f) is = is
read_too cause.ReportLong is = is
read_too (cause.ReportRefused f) is = is
read_too cause.NoMemory is = refl
read_too cause.StoreFault is = refl
read_too cause.SinkFault is = refl
read_too cause.DiskFault is = is
read_too (cause.KeptRefused f) is = is

pub image_of_plan : (c : Cause) → IsEarly an_image c → IsEarly a_plan c
image_of_plan c early = record { reads = read_too c early.reads; not_done = early.not_done; not_usage = early.not_usage; not_sink = early.not_sink }

-- and what is against a plan is against a report of it
read_beside : (c : Cause) → IsTrue (concerns a_plan c) → IsTrue (concerns a_report c)
read_beside cause.Done is = refl
read_beside cause.Usage is = refl
read_beside cause.FileMissing is = refl
read_beside cause.JobLong is = refl
read_beside (cause.JobRefused f) is = refl
read_beside cause.ImageLong is = refl
read_beside (cause.ImageRefused f) is = refl
read_beside cause.AsmLong is = is
read_beside (cause.AsmRefused f) is = is
read_beside cause.ReportLong is = refl
read_beside (cause.ReportRefused f) is = refl
read_beside cause.NoMemory is = refl
read_beside cause.StoreFault is = refl
read_beside cause.SinkFault is = refl
read_beside cause.DiskFault is = is
read_beside (cause.KeptRefused f) is = is

pub plan_of_report : (c : Cause) → IsEarly a_plan c → IsEarly a_report c
plan_of_report c early = record { reads = read_beside c early.reads; not_done = early.not_done; not_usage = early.not_usage; not_sink = early.not_sink }
