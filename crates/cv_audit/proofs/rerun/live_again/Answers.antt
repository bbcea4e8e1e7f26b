use Rattle.std.proofs.Common.{◌<◌, ◌∙◌, ℕ, List, length, sym, ap, subst}
use Rattle.std.proofs.lemmas.List.{length-map}
use Rattle.std.specs.List.{AllByRecursion}
use Rattle.cv_base.specs.declared.entries.Adopted.{Adopted}
use Rattle.cv_histories.specs.Legal.{NeverFalls}
use Rattle.cv_histories.specs.Rows.{written}
use Rattle.cv_audit.specs.Scripted.{ScriptOf, Scripted}
use Rattle.cv_audit.specs.Statements.{AgreeSoFar}
use Rattle.cv_audit.proofs.Again.{answers_agree, joined_counted, live_other}
use Rattle.cv_audit.proofs.Rising.{from_zero}
use Rattle.cv_audit.proofs.rerun.live_again.Goals as goal

pub make-adopter-requires-clause-counted : goal.make-adopter-requires-clause-counted
make-adopter-requires-clause-counted c = joined_counted c.as_slice-rows.result.now (c.are_joined.ensures.0 c.if-not-are_joined.false)

pub make-adopter-requires-clause-rises : goal.make-adopter-requires-clause-rises
make-adopter-requires-clause-rises c = (from_zero c.as_slice-rows.result.now).1 (subst NeverFalls (sym c.as_slice-rows.ensures) c.requires.may.rises)

pub make-adopter-requires-clause-places : goal.make-adopter-requires-clause-places
make-adopter-requires-clause-places c =
    subst (λ (rows : List Adopted). AllByRecursion (λ (a : Adopted). a.version < length c.args.versions.now) rows) (sym c.as_slice-rows.ensures)
    (subst (λ (n : ℕ). AllByRecursion (λ (a : Adopted). a.version < n) c.args.entry.now.adopted) (length-map c.args.versions.now (λ t. t.value)) c.requires.may.there)

pub returns-clause-not : goal.returns-clause-not
returns-clause-not c = λ none.
    let ran = c.in_ok-ran.ensures in
    let now = c.live.new.adopter in
    let start = c.make-adopter.result in
    let e = c.in_ok-ran.ran.entry in
    let same = ap (λ (s : ScriptOf). s.tables) ran.origin ∙ ap (λ (s : Scripted). s.script.tables) c.make-adopter.ensures in
    let agree = answers_agree c.as_slice-rows.result.now start now _ (written e.adopted) c.make-adopter.ensures ran.origin ran.answers in
    live_other c.one_honest_entry.ensures c.args.plan.now _ now.script.tables c.args.entry.now e same ran.honest ran.run ran.by
    (subst (λ (rows : List Adopted). AgreeSoFar (written rows) (written e.adopted)) c.as_slice-rows.ensures agree)
    (c.kept_if_same.ensures.other none)
