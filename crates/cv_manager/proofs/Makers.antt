-- Each version has a maker, and a manager keeps it.
use Rattle.std.proofs.Common.{◌≡◌, ℕ, Bool, true, false, List, [], ◌∷◌, ◌++◌, length, get_or, Option, Some, ◌<◌, refl, sym, ap, ◌∙◌, arith, length-append}
use Rattle.std.specs.Prelude.{if◌then◌else◌, slice_get}
use Rattle.std.proofs.lemmas.Bool.Decides.{nat_tests}
use Rattle.std.proofs.lemmas.Option.{slice_get_read}
use Rattle.cv_base.specs.declared.entries.Entry.{Entry}
use Rattle.cv_base.specs.PlanOf.{PlanOf}
use Rattle.cv_histories.specs.Report.{makers, makers_with}
use Rattle.cv_histories.specs.Versions.{ledger, newest_of, same_table, seen_by, table}
use Rattle.cv_manager.specs.declared.kept.Kept.{Kept}
use Rattle.cv_manager.specs.Kept.{IsKept, past_of}
use Rattle.cv_manager.specs.ManagerOf.{ManagerOf, ledger_in}
use Rattle.cv_runs.specs.PatchedRun.{Table}

one_more : (b : Bool) (versions : List Table) (t : Table) (entry : ℕ) (ms : List (Option ℕ)) → length ms ≡ length versions
    → length (makers_with (length versions) (length (if b then versions else versions ++ t ∷ [])) entry ms) ≡ length (if b then versions else versions ++ t ∷ [])
one_more true versions t entry ms same = grind (arith, nat_tests)
one_more false versions t entry ms same = grind (arith, nat_tests, length-append)

pub each_maker : (plan : PlanOf) (past : List Entry) → length (makers plan past) ≡ length ((ledger plan past).versions)
each_maker plan [] = refl
each_maker plan (e ∷ past) =
    let versions = (ledger plan past).versions in
    let t = table plan (seen_by (ledger plan past) e) in
    one_more (same_table t (newest_of versions)) versions t (length past) (makers plan past) (each_maker plan past)

pub each_kept : (k : Kept) → IsKept k → (m : ManagerOf) → record { plan = k.plan; past = past_of k } ≡ m → length ((ledger_in m).versions) ≡ length k.makers.items
each_kept k kept m view =
    sym (ap length kept.makers ∙ each_maker k.plan (past_of k) ∙ ap (λ (m : ManagerOf). length ((ledger_in m).versions)) view)

pub maker_kept : (k : Kept) → IsKept k → (m : ManagerOf) → record { plan = k.plan; past = past_of k } ≡ m
    → (v : ℕ) → v < length ((ledger_in m).versions) → (by : Option ℕ) → by ≡ get_or k.makers.items v by → Some by ≡ slice_get (makers m.plan m.past) v
maker_kept k kept m view v within by is =
    sym (slice_get_read k.makers.items _ v by (each_kept k kept m view) within is)
    ∙ ap (λ makers. slice_get makers v) (kept.makers ∙ ap (λ (m : ManagerOf). makers m.plan m.past) view)
