-- How a command ends that has no text to write.
use Rattle.std.proofs.Common.{◌≡◌, ◌≢◌, ℕ, false, List, [], Option, Some, None, Ok, Err, IfSome, IsTrue, inl, inr, refl, sym, subst, map, string_bytes}
use Rattle.std.specs.Prelude.{◌⊎◌}
use Rattle.clearview.specs.declared.cause.Cause.{Cause}
use Rattle.clearview.specs.declared.cause.Cause.TheVariants as cause
use Rattle.clearview.specs.Causes.{Completes, Ends, IsFree, IsOfRounds, Writes, concerns}
use Rattle.clearview.specs.Gives.{Gives}
use Rattle.clearview.specs.Verdict.{IsFound, Verdict, files_for, plan_asked, verdict_by}
use Rattle.clearview.specs.Words.{Asm, Audit, Check, Command, Drill, Infer, Kept, Listing, Plain, Reads, Replay, Run, command_of, keeps_book, keeps_rounds, reads_of}
use Rattle.cv_edge.specs.Edge.{Held}
use Rattle.cv_manager.specs.ManagerOf.{ManagerOf}
use Rattle.std.specs.declared.alloc.Global.{Global}
use Rattle.std.specs.declared.string.String.{String}

-- ---- kept rounds

-- a command that reads none is ended by no cause of theirs
not_of_rounds : (r : Reads) (c : Cause) → r.rounds ≡ false → IsTrue (concerns r c) → IsOfRounds c → ⊥
not_of_rounds r cause.Done none reads is = is
not_of_rounds r cause.Usage none reads is = is
not_of_rounds r cause.FileMissing none reads is = is
not_of_rounds r cause.JobLong none reads is = is
not_of_rounds r (cause.JobRefused f) none reads is = is
not_of_rounds r cause.ImageLong none reads is = is
not_of_rounds r (cause.ImageRefused f) none reads is = is
not_of_rounds r cause.AsmLong none reads is = is
not_of_rounds r (cause.AsmRefused f) none reads is = is
not_of_rounds r cause.ReportLong none reads is = is
not_of_rounds r (cause.ReportRefused f) none reads is = is
not_of_rounds r cause.NoMemory none reads is = is
not_of_rounds r cause.StoreFault none reads is = is
not_of_rounds r cause.SinkFault none reads is = is
not_of_rounds r cause.DiskFault none reads is = let never = none in absurd (cc reads)
not_of_rounds r (cause.KeptRefused f) none reads is = let never = none in absurd (cc reads)

reads_none : (asked : Option Command) → keeps_rounds asked ≡ false → (reads_of asked).rounds ≡ false
reads_none None is = refl
reads_none (Some (Plain image budget input)) is = refl
reads_none (Some (Check job)) is = refl
reads_none (Some (Infer job)) is = refl
reads_none (Some (Run job)) is = refl
reads_none (Some (Kept job)) is = absurd (cc is)
reads_none (Some (Drill number runs)) is = refl
reads_none (Some (Asm source)) is = refl
reads_none (Some (Listing image)) is = refl
reads_none (Some (Audit job report)) is = refl
reads_none (Some (Replay job report run turn)) is = refl

pub no_rounds : (asked : Option Command) (c : Cause) → keeps_rounds asked ≡ false → IsTrue (concerns (reads_of asked) c) → IsOfRounds c → ⊥
no_rounds asked c none reads is = not_of_rounds (reads_of asked) c (reads_none asked none) reads is

-- a command that posts no runs keeps none
pub posts_keeps : (asked : Option Command) → keeps_book asked ≡ false → keeps_rounds asked ≡ false
posts_keeps None is = refl
posts_keeps (Some (Plain image budget input)) is = refl
posts_keeps (Some (Check job)) is = refl
posts_keeps (Some (Infer job)) is = refl
posts_keeps (Some (Run job)) is = refl
posts_keeps (Some (Kept job)) is = absurd (cc is)
posts_keeps (Some (Drill number runs)) is = refl
posts_keeps (Some (Asm source)) is = refl
posts_keeps (Some (Listing image)) is = refl
posts_keeps (Some (Audit job report)) is = refl
posts_keeps (Some (Replay job report run turn)) is = refl

-- ---- a cause against a text

ends_of : (v : Verdict) (c : Cause) → (v ≡ Err c) ⊎ IsFree c → c ≢ cause.Done → c ≢ cause.SinkFault → (IsOfRounds c → ⊥) → Ends v c
ends_of v cause.Done why done sink rounds = absurd (done refl)
ends_of v cause.Usage why done sink rounds = why
ends_of v cause.FileMissing why done sink rounds = why
ends_of v cause.JobLong why done sink rounds = why
ends_of v (cause.JobRefused f) why done sink rounds = why
ends_of v cause.ImageLong why done sink rounds = why
ends_of v (cause.ImageRefused f) why done sink rounds = why
ends_of v cause.AsmLong why done sink rounds = why
ends_of v (cause.AsmRefused f) why done sink rounds = why
ends_of v cause.ReportLong why done sink rounds = why
ends_of v (cause.ReportRefused f) why done sink rounds = why
ends_of v cause.NoMemory why done sink rounds = why
ends_of v cause.StoreFault why done sink rounds = why
ends_of v cause.SinkFault why done sink rounds = absurd (sink refl)
ends_of v cause.DiskFault why done sink rounds = absurd (rounds tt)
ends_of v (cause.KeptRefused f) why done sink rounds = absurd (rounds tt)

writes_of : (v : Verdict) (c : Cause) (now : Option (List ℕ)) → c ≢ cause.Done → c ≢ cause.SinkFault → Writes v c now now
writes_of (Err e) c now done sink = refl
writes_of (Ok text) cause.Done now done sink = absurd (done refl)
writes_of (Ok text) cause.Usage now done sink = refl
writes_of (Ok text) cause.FileMissing now done sink = refl
writes_of (Ok text) cause.JobLong now done sink = refl
writes_of (Ok text) (cause.JobRefused f) now done sink = refl
writes_of (Ok text) cause.ImageLong now done sink = refl
writes_of (Ok text) (cause.ImageRefused f) now done sink = refl
writes_of (Ok text) cause.AsmLong now done sink = refl
writes_of (Ok text) (cause.AsmRefused f) now done sink = refl
writes_of (Ok text) cause.ReportLong now done sink = refl
writes_of (Ok text) (cause.ReportRefused f) now done sink = refl
writes_of (Ok text) cause.NoMemory now done sink = refl
writes_of (Ok text) cause.StoreFault now done sink = refl
writes_of (Ok text) cause.SinkFault now done sink = absurd (sink refl)
writes_of (Ok text) cause.DiskFault now done sink = refl
writes_of (Ok text) (cause.KeptRefused f) now done sink = refl

complete_of : (v : Verdict) (c : Cause) (StoreRose SinkRose : Type 0) → (v ≡ Err c) ⊎ IsFree c → (c ≡ cause.StoreFault → StoreRose) → Completes v StoreRose SinkRose c
complete_of v c StoreRose SinkRose (inl e) fault = λ text is store sink. absurd cc
complete_of v c StoreRose SinkRose (inr (inl e)) fault = λ text is store sink. inr (inl e)
complete_of v c StoreRose SinkRose (inr (inr e)) fault = λ text is store sink. absurd (store (fault e))

pub ends_against : (files : Option (List ℕ → Option (List ℕ))) (asked : Option Command) (c : Cause)
    → IfSome files (λ file. Gives (verdict_by asked file [] None) (Err c)) → c ≢ cause.Done → c ≢ cause.SinkFault → (IsOfRounds c → ⊥)
    → IfSome files (λ file. Ends (verdict_by asked file [] None) c)
ends_against None asked c why done sink rounds = tt
ends_against (Some file) asked c why done sink rounds = ends_of (verdict_by asked file [] None) c why done sink rounds

writes_against : (files : Option (List ℕ → Option (List ℕ))) (asked : Option Command) (c : Cause) (now : Option (List ℕ))
    → c ≢ cause.Done → c ≢ cause.SinkFault
    → IfSome files (λ file. Writes (verdict_by asked file [] None) c now now)
writes_against None asked c now done sink = tt
writes_against (Some file) asked c now done sink = writes_of (verdict_by asked file [] None) c now done sink

pub complete_against : (files : Option (List ℕ → Option (List ℕ))) (asked : Option Command) (c : Cause) (StoreRose SinkRose : Type 0)
    → IfSome files (λ file. Gives (verdict_by asked file [] None) (Err c)) → (c ≡ cause.StoreFault → StoreRose)
    → IfSome files (λ file. Completes (verdict_by asked file [] None) StoreRose SinkRose c)
complete_against None asked c StoreRose SinkRose why fault = tt
complete_against (Some file) asked c StoreRose SinkRose why fault = complete_of (verdict_by asked file [] None) c StoreRose SinkRose why fault

-- ---- of the command that words are

pub writes_of_words : (words : List (String Global)) (told : Option Held) (c : Cause) (now : Option (List ℕ))
    → c ≢ cause.Done → c ≢ cause.SinkFault
    → IfSome (files_for (command_of (map string_bytes words)) told) (λ file. Writes (verdict_by (command_of (map string_bytes words)) file [] None) c now now)
writes_of_words words told c now done sink =
    writes_against (files_for (command_of (map string_bytes words)) told) (command_of (map string_bytes words)) c now done sink

-- without a book there is no plan to speak of
no_plan : (asked : Option Command) (files : Option (List ℕ → Option (List ℕ)))
    → IfSome files (λ file. IfSome None (λ (b : ManagerOf). plan_asked asked file ≡ Ok b.plan))
no_plan asked None = tt
no_plan asked (Some file) = tt

pub no_plan_of_words : (words : List (String Global)) (told : Option Held)
    → IfSome (files_for (command_of (map string_bytes words)) told) (λ file. IfSome None (λ (b : ManagerOf). plan_asked (command_of (map string_bytes words)) file ≡ Ok b.plan))
no_plan_of_words words told = no_plan (command_of (map string_bytes words)) (files_for (command_of (map string_bytes words)) told)

-- nothing was found, so there is nothing to be so
none_judged : (asked : Option Command) (files : Option (List ℕ → Option (List ℕ))) → IfSome files (λ file. IfSome None (IsFound asked file))
none_judged asked None = tt
none_judged asked (Some file) = tt

pub none_judged_of_words : (words : List (String Global)) (told : Option Held) → IfSome (files_for (command_of (map string_bytes words)) told) (λ file. IfSome None (IsFound (command_of (map string_bytes words)) file))
none_judged_of_words words told = none_judged (command_of (map string_bytes words)) (files_for (command_of (map string_bytes words)) told)

-- ---- where there is a text

abbrev Files : Type 0
Files = List ℕ → Option (List ℕ)

ends_so : (v : Verdict) (text : List ℕ) (c : Cause) → v ≡ Ok text → (c ≡ cause.Done) ⊎ (c ≡ cause.SinkFault) → Ends v c
ends_so v text c is (inl e) = subst (Ends v) (sym e) (text, is)
ends_so v text c is (inr e) = subst (Ends v) (sym e) (text, is)

pub ends_text : (files : Option Files) (v : Files → Verdict) (text : List ℕ) (c : Cause) → IfSome files (λ file. v file ≡ Ok text) → (c ≡ cause.Done) ⊎ (c ≡ cause.SinkFault) → IfSome files (λ file. Ends (v file) c)
ends_text None v text c is so = tt
ends_text (Some file) v text c is so = ends_so (v file) text c is so

pub writes_text : (files : Option Files) (v : Files → Verdict) (text : List ℕ) (c : Cause) (old new : Option (List ℕ)) → IfSome files (λ file. v file ≡ Ok text) → Writes (Ok text) c old new → IfSome files (λ file. Writes (v file) c old new)
writes_text None v text c old new is so = tt
writes_text (Some file) v text c old new is so = subst (λ (v : Verdict). Writes v c old new) (sym is) so

complete_so : (v : Verdict) (c : Cause) (StoreRose SinkRose : Type 0) → (c ≡ cause.Done) ⊎ (c ≡ cause.SinkFault) → (c ≡ cause.SinkFault → SinkRose) → Completes v StoreRose SinkRose c
complete_so v c StoreRose SinkRose (inl e) fault = λ text is store sink. inl e
complete_so v c StoreRose SinkRose (inr e) fault = λ text is store sink. absurd (sink (fault e))

pub complete_text : (files : Option Files) (v : Files → Verdict) (c : Cause) (StoreRose SinkRose : Type 0) → (c ≡ cause.Done) ⊎ (c ≡ cause.SinkFault) → (c ≡ cause.SinkFault → SinkRose) → IfSome files (λ file. Completes (v file) StoreRose SinkRose c)
complete_text None v c StoreRose SinkRose so fault = tt
complete_text (Some file) v c StoreRose SinkRose so fault = complete_so (v file) c StoreRose SinkRose so fault
