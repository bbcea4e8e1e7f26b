-- What is said of a report that is judged, and of one that is stepped through.
use Rattle.std.proofs.Common.{◌≡◌, ℕ, List, [], Option, Some, None, Result, Ok, Err, IfSome, inl, inr, refl, sym, ap, ◌∙◌, arith}
use Rattle.std.specs.Prelude.{◌++◌, codes, reverse}
use Rattle.std.specs.Str.{bytes_eq}
use Rattle.cv_audit.specs.Judged.{IsBookOf}
use Rattle.cv_base.specs.declared.entries.Entry.{Entry}
use Rattle.cv_base.specs.PlanOf.{PlanOf}
use Rattle.cv_edge.specs.Edge.{FetchesOnce, FetchesUpTo, Held}
use Rattle.cv_histories.specs.Report.{line, report}
use Rattle.cv_manager.specs.ManagerOf.{ManagerOf}
use Rattle.clearview.specs.declared.cause.Cause.{Cause}
use Rattle.clearview.specs.declared.judgement.Judgement.{Judgement}
use Rattle.clearview.specs.Gives.{Gives}
use Rattle.clearview.specs.Judged.{IsJudged, IsJudgedIn, judgement_text, same_line}
use Rattle.clearview.specs.Replayed.{said_text}
use Rattle.clearview.specs.Verdict.{IsFound, Verdict, and_then, plan_in, report_in, told_files, verdict_by}
use Rattle.clearview.specs.Words.{Audit, Replay}

-- ---- fetches

pub fetches_thrice : (told mid left : Option Held) → FetchesUpTo 2 told mid → FetchesOnce mid left → FetchesUpTo 3 told left
fetches_thrice None None None a b = tt
fetches_thrice (Some held) (Some later) (Some last) a b =
    record { same = b.same ∙ a.same; rises = omega arith; at_most = omega arith }
fetches_thrice None (Some later) left a b = absurd a
fetches_thrice (Some held) None left a b = absurd a
fetches_thrice None None (Some last) a b = absurd b
fetches_thrice (Some held) (Some later) None a b = absurd b

pub fetches_fewer : (told left : Option Held) → FetchesUpTo 2 told left → FetchesUpTo 3 told left
fetches_fewer None None a = tt
fetches_fewer (Some held) (Some later) a = record { same = a.same; rises = a.rises; at_most = omega arith }
fetches_fewer None (Some later) a = absurd a
fetches_fewer (Some held) None a = absurd a

-- ---- a text of the plan and the report that files hold

abbrev Files : Type 0
Files = List ℕ → Option (List ℕ)

abbrev Write : Type 0
Write = PlanOf → List ℕ × List Entry → List ℕ

abbrev written_of : Write → List ℕ → List ℕ → Files → Verdict
written_of write job name file = and_then (plan_in file job) (λ (plan : PlanOf). and_then (report_in (file name)) (λ (report : List ℕ × List Entry). Ok (write plan report)))

-- the report is told by what the job's fetches left
here : (file later : Files) (name : List ℕ) (r : Result (List ℕ × List Entry) Cause) → later ≡ file → report_in (later name) ≡ r → report_in (file name) ≡ r
here file later name r same read = ap (λ (f : Files). report_in (f name)) (sym same) ∙ read

told_so : (write : Write) (told mid : Option Held) (job name : List ℕ) (plan : PlanOf) (text : List ℕ) (entries : List Entry) (answer : List ℕ) → FetchesUpTo 2 told mid
    → IfSome told (λ held. Gives (plan_in held.file job) (Ok plan))
    → IfSome mid (λ held. Gives (report_in (held.file name)) (Ok (text, entries)))
    → answer ≡ write plan (text, entries)
    → IfSome (told_files told) (λ file. Gives (written_of write job name file) (Ok answer))
told_so write None mid job name plan text entries answer fetched planned read is = tt
told_so write (Some held) None job name plan text entries answer fetched planned read is = absurd fetched
told_so write (Some held) (Some later) job name plan text entries answer fetched planned read is =
    rw (planned, here held.file later.file name (Ok (text, entries)) fetched.same read, is) refl

no_plan_told : (write : Write) (told : Option Held) (job name : List ℕ) (c : Cause)
    → IfSome told (λ held. Gives (plan_in held.file job) (Err c))
    → IfSome (told_files told) (λ file. Gives (written_of write job name file) (Err c))
no_plan_told write None job name c gives = tt
no_plan_told write (Some held) job name c (inl e) = inl (rw e refl)
no_plan_told write (Some held) job name c (inr free) = inr free

no_report_told : (write : Write) (told mid : Option Held) (job name : List ℕ) (plan : PlanOf) (c : Cause) → FetchesUpTo 2 told mid
    → IfSome told (λ held. Gives (plan_in held.file job) (Ok plan))
    → IfSome mid (λ held. Gives (report_in (held.file name)) (Err c))
    → IfSome (told_files told) (λ file. Gives (written_of write job name file) (Err c))
no_report_told write None mid job name plan c fetched planned against = tt
no_report_told write (Some held) None job name plan c fetched planned against = absurd fetched
no_report_told write (Some held) (Some later) job name plan c fetched planned (inl e) =
    inl (rw (planned, here held.file later.file name (Err c) fetched.same e) refl)
no_report_told write (Some held) (Some later) job name plan c fetched planned (inr free) = inr free

-- what is found is so of them
found_so : (told mid : Option Held) (job name : List ℕ) (plan : PlanOf) (text : List ℕ) (entries : List Entry) (said : Judgement) → FetchesUpTo 2 told mid
    → IfSome told (λ held. Gives (plan_in held.file job) (Ok plan))
    → IfSome mid (λ held. Gives (report_in (held.file name)) (Ok (text, entries)))
    → IsJudged plan entries said
    → IfSome (told_files told) (λ file. IsJudgedIn (plan_in file job) (report_in (file name)) said)
found_so None mid job name plan text entries said fetched planned read is = tt
found_so (Some held) None job name plan text entries said fetched planned read is = absurd fetched
found_so (Some held) (Some later) job name plan text entries said fetched planned read is =
    rw (planned, here held.file later.file name (Ok (text, entries)) fetched.same read) is

-- ---- audit

pub audit_judged : (told mid : Option Held) (job name : List ℕ) (plan : PlanOf) (text : List ℕ) (entries : List Entry) (said : Judgement) (answer : List ℕ) → FetchesUpTo 2 told mid
    → IfSome told (λ held. Gives (plan_in held.file job) (Ok plan))
    → IfSome mid (λ held. Gives (report_in (held.file name)) (Ok (text, entries)))
    → answer ≡ judgement_text plan text entries said
    → IfSome (told_files told) (λ file. Gives (verdict_by (Some (Audit job name)) file [] (Some said)) (Ok answer))
audit_judged told mid job name plan text entries said answer fetched planned read is =
    told_so (λ (p : PlanOf) (r : List ℕ × List Entry). judgement_text p r.0 r.1 said) told mid job name plan text entries answer fetched planned read is

pub audit_found : (told mid : Option Held) (job name : List ℕ) (plan : PlanOf) (text : List ℕ) (entries : List Entry) (said : Judgement) → FetchesUpTo 2 told mid
    → IfSome told (λ held. Gives (plan_in held.file job) (Ok plan))
    → IfSome mid (λ held. Gives (report_in (held.file name)) (Ok (text, entries)))
    → IsJudged plan entries said
    → IfSome (told_files told) (λ file. IfSome (Some said) (IsFound (Some (Audit job name)) file))
audit_found told mid job name plan text entries said fetched planned read is = found_so told mid job name plan text entries said fetched planned read is

pub audit_no_plan : (told : Option Held) (job name : List ℕ) (c : Cause)
    → IfSome told (λ held. Gives (plan_in held.file job) (Err c))
    → IfSome (told_files told) (λ file. Gives (verdict_by (Some (Audit job name)) file [] None) (Err c))
audit_no_plan told job name c gives = no_plan_told (λ (p : PlanOf) (r : List ℕ × List Entry). []) told job name c gives

pub audit_no_report : (told mid : Option Held) (job name : List ℕ) (plan : PlanOf) (c : Cause) → FetchesUpTo 2 told mid
    → IfSome told (λ held. Gives (plan_in held.file job) (Ok plan))
    → IfSome mid (λ held. Gives (report_in (held.file name)) (Err c))
    → IfSome (told_files told) (λ file. Gives (verdict_by (Some (Audit job name)) file [] None) (Err c))
audit_no_report told mid job name plan c fetched planned against = no_report_told (λ (p : PlanOf) (r : List ℕ × List Entry). []) told mid job name plan c fetched planned against

-- ---- visit

pub visit_judged : (told mid : Option Held) (job name : List ℕ) (run turn : ℕ) (plan : PlanOf) (text : List ℕ) (entries : List Entry) (said : Judgement) (answer : List ℕ) → FetchesUpTo 2 told mid
    → IfSome told (λ held. Gives (plan_in held.file job) (Ok plan))
    → IfSome mid (λ held. Gives (report_in (held.file name)) (Ok (text, entries)))
    → answer ≡ said_text plan entries run turn said
    → IfSome (told_files told) (λ file. Gives (verdict_by (Some (Replay job name run turn)) file [] (Some said)) (Ok answer))
visit_judged told mid job name run turn plan text entries said answer fetched planned read is =
    told_so (λ (p : PlanOf) (r : List ℕ × List Entry). said_text p r.1 run turn said) told mid job name plan text entries answer fetched planned read is

pub visit_found : (told mid : Option Held) (job name : List ℕ) (run turn : ℕ) (plan : PlanOf) (text : List ℕ) (entries : List Entry) (said : Judgement) → FetchesUpTo 2 told mid
    → IfSome told (λ held. Gives (plan_in held.file job) (Ok plan))
    → IfSome mid (λ held. Gives (report_in (held.file name)) (Ok (text, entries)))
    → IsJudged plan entries said
    → IfSome (told_files told) (λ file. IfSome (Some said) (IsFound (Some (Replay job name run turn)) file))
visit_found told mid job name run turn plan text entries said fetched planned read is = found_so told mid job name plan text entries said fetched planned read is

pub visit_no_plan : (told : Option Held) (job name : List ℕ) (run turn : ℕ) (c : Cause)
    → IfSome told (λ held. Gives (plan_in held.file job) (Err c))
    → IfSome (told_files told) (λ file. Gives (verdict_by (Some (Replay job name run turn)) file [] None) (Err c))
visit_no_plan told job name run turn c gives = no_plan_told (λ (p : PlanOf) (r : List ℕ × List Entry). []) told job name c gives

pub visit_no_report : (told mid : Option Held) (job name : List ℕ) (run turn : ℕ) (plan : PlanOf) (c : Cause) → FetchesUpTo 2 told mid
    → IfSome told (λ held. Gives (plan_in held.file job) (Ok plan))
    → IfSome mid (λ held. Gives (report_in (held.file name)) (Err c))
    → IfSome (told_files told) (λ file. Gives (verdict_by (Some (Replay job name run turn)) file [] None) (Err c))
visit_no_report told mid job name run turn plan c fetched planned against = no_report_told (λ (p : PlanOf) (r : List ℕ × List Entry). []) told mid job name plan c fetched planned against

-- ---- sound entries

pub sound_told : (plan : PlanOf) (text : List ℕ) (entries : List Entry) (book : ManagerOf) (answer : List ℕ) → IsBookOf plan entries book
    → answer ≡ line (codes "sound") ++ same_line (bytes_eq text (report book.plan book.past))
    → answer ≡ line (codes "sound") ++ same_line (bytes_eq text (report plan (reverse entries)))
sound_told plan text entries book answer of is =
    is ∙ ap (λ (p : PlanOf). line (codes "sound") ++ same_line (bytes_eq text (report p book.past))) of.of_plan
    ∙ ap (λ (past : List Entry). line (codes "sound") ++ same_line (bytes_eq text (report plan past))) of.past
