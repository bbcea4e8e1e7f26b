-- What the parts of a command say of its text.
use Rattle.std.proofs.Common.{◌≡◌, ℕ, List, [], Option, Some, None, option_map, Result, Ok, Err, IfSome, inl, inr, refl, sym, ap, subst, ◌∙◌, arith}
use Rattle.std.specs.List.{flat_map}
use Rattle.cv_asm.specs.Listing.{listing_of}
use Rattle.cv_base.specs.Picture.{Picture}
use Rattle.cv_edge.specs.Edge.{Held, FetchesUpTo, FetchesOnce}
use Rattle.cv_base.specs.PlanOf.{PlanOf}
use Rattle.cv_histories.specs.OtherTexts.{infer_text}
use Rattle.cv_mem.specs.Memory.{spelled}
use Rattle.cv_runs.specs.PlainText.{plain_text}
use Rattle.clearview.specs.declared.cause.Cause.{Cause}
use Rattle.clearview.specs.CheckText.{check_text}
use Rattle.clearview.specs.Gives.{Gives}
use Rattle.clearview.specs.Verdict.{image_in, plan_in, files_for, source_in, told_files, verdict_by}
use Rattle.clearview.specs.declared.words.Command.{Command as Reading}
use Rattle.clearview.specs.Views.{command_view}
use Rattle.clearview.specs.Words.{Command, Plain, Check, Infer, Asm, Listing}

-- ---- fetches

pub fetches_none : (n : ℕ) (told : Option Held) → FetchesUpTo n told told
fetches_none n None = tt
fetches_none n (Some held) = record { same = refl; rises = omega arith; at_most = omega arith }

pub fetches_more : (told left : Option Held) → FetchesOnce told left → FetchesUpTo 2 told left
fetches_more None None once = tt
fetches_more (Some held) (Some later) once =
    record { same = once.same; rises = once.rises; at_most = omega arith }
fetches_more None (Some later) once = absurd once
fetches_more (Some held) None once = absurd once

pub fetches_twice : (told mid left : Option Held) → FetchesOnce told mid → FetchesOnce mid left → FetchesUpTo 2 told left
fetches_twice None None None a b = tt
fetches_twice (Some held) (Some later) (Some last) a b =
    record { same = b.same ∙ a.same; rises = omega arith; at_most = omega arith }
fetches_twice None (Some later) left a b = absurd a
fetches_twice (Some held) None left a b = absurd a
fetches_twice None None (Some last) a b = absurd b
fetches_twice (Some held) (Some later) None a b = absurd b

-- ---- what words ask for

pub read_gives : (asked : Option Command) (o : Option Reading) (command : Reading) (told : Option Held) (r : Result (List ℕ) Cause)
    → option_map command_view o ≡ asked → o ≡ Some command
    → IfSome (files_for (Some (command_view command)) told) (λ file. Gives (verdict_by (Some (command_view command)) file [] None) r)
    → IfSome (files_for asked told) (λ file. Gives (verdict_by asked file [] None) r)
read_gives asked o command told r value is gives =
    subst (λ (a : Option Command). IfSome (files_for a told) (λ file. Gives (verdict_by a file [] None) r)) (ap (λ (x : Option Reading). option_map command_view x) (sym is) ∙ value) gives

-- ---- plain

pub plain_ran : (told : Option Held) (image : List ℕ) (budget : ℕ) (input : List ℕ) (picture : Picture) (text : List ℕ)
    → IfSome told (λ held. Gives (image_in (held.file image)) (Ok picture))
    → text ≡ plain_text picture input budget
    → IfSome (told_files told) (λ file. Gives (verdict_by (Some (Plain image budget input)) file [] None) (Ok text))
plain_ran None image budget input picture text gives is = tt
plain_ran (Some held) image budget input picture text gives is = rw (gives, is) refl

pub plain_against : (told : Option Held) (image : List ℕ) (budget : ℕ) (input : List ℕ) (c : Cause)
    → IfSome told (λ held. Gives (image_in (held.file image)) (Err c))
    → IfSome (told_files told) (λ file. Gives (verdict_by (Some (Plain image budget input)) file [] None) (Err c))
plain_against None image budget input c gives = tt
plain_against (Some held) image budget input c (inl e) = inl (rw e refl)
plain_against (Some held) image budget input c (inr free) = inr free

-- ---- check and infer

pub check_ran : (told : Option Held) (job : List ℕ) (plan : PlanOf) (text : List ℕ)
    → IfSome told (λ held. Gives (plan_in held.file job) (Ok plan))
    → text ≡ check_text plan
    → IfSome (told_files told) (λ file. Gives (verdict_by (Some (Check job)) file [] None) (Ok text))
check_ran None job plan text gives is = tt
check_ran (Some held) job plan text gives is = rw (gives, is) refl

pub check_against : (told : Option Held) (job : List ℕ) (c : Cause)
    → IfSome told (λ held. Gives (plan_in held.file job) (Err c))
    → IfSome (told_files told) (λ file. Gives (verdict_by (Some (Check job)) file [] None) (Err c))
check_against None job c gives = tt
check_against (Some held) job c (inl e) = inl (rw e refl)
check_against (Some held) job c (inr free) = inr free

pub infer_ran : (told : Option Held) (job : List ℕ) (plan : PlanOf) (text : List ℕ)
    → IfSome told (λ held. Gives (plan_in held.file job) (Ok plan))
    → text ≡ infer_text plan
    → IfSome (told_files told) (λ file. Gives (verdict_by (Some (Infer job)) file [] None) (Ok text))
infer_ran None job plan text gives is = tt
infer_ran (Some held) job plan text gives is = rw (gives, is) refl

pub infer_against : (told : Option Held) (job : List ℕ) (c : Cause)
    → IfSome told (λ held. Gives (plan_in held.file job) (Err c))
    → IfSome (told_files told) (λ file. Gives (verdict_by (Some (Infer job)) file [] None) (Err c))
infer_against None job c gives = tt
infer_against (Some held) job c (inl e) = inl (rw e refl)
infer_against (Some held) job c (inr free) = inr free

-- ---- asm and list

pub asm_ran : (told : Option Held) (source words text : List ℕ)
    → IfSome told (λ held. Gives (source_in (held.file source)) (Ok words))
    → text ≡ flat_map (spelled 4) words
    → IfSome (told_files told) (λ file. Gives (verdict_by (Some (Asm source)) file [] None) (Ok text))
asm_ran None source words text gives is = tt
asm_ran (Some held) source words text gives is = rw (gives, is) refl

pub asm_against : (told : Option Held) (source : List ℕ) (c : Cause)
    → IfSome told (λ held. Gives (source_in (held.file source)) (Err c))
    → IfSome (told_files told) (λ file. Gives (verdict_by (Some (Asm source)) file [] None) (Err c))
asm_against None source c gives = tt
asm_against (Some held) source c (inl e) = inl (rw e refl)
asm_against (Some held) source c (inr free) = inr free

pub list_ran : (told : Option Held) (image : List ℕ) (picture : Picture) (text : List ℕ)
    → IfSome told (λ held. Gives (image_in (held.file image)) (Ok picture))
    → text ≡ listing_of picture.words
    → IfSome (told_files told) (λ file. Gives (verdict_by (Some (Listing image)) file [] None) (Ok text))
list_ran None image picture text gives is = tt
list_ran (Some held) image picture text gives is = rw (gives, is) refl

pub list_against : (told : Option Held) (image : List ℕ) (c : Cause)
    → IfSome told (λ held. Gives (image_in (held.file image)) (Err c))
    → IfSome (told_files told) (λ file. Gives (verdict_by (Some (Listing image)) file [] None) (Err c))
list_against None image c gives = tt
list_against (Some held) image c (inl e) = inl (rw e refl)
list_against (Some held) image c (inr free) = inr free
