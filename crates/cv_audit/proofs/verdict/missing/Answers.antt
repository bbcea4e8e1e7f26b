use Rattle.std.proofs.Common.{◌≡◌, ◌∙◌, List, ap, reverse, subst, ⊎_elim, arith}
use Rattle.std.proofs.lemmas.Bool.{cases_lt}
use Rattle.std.proofs.lemmas.List.{reverse-reverse}
use Rattle.cv_base.specs.declared.entries.Entry.{Entry}
use Rattle.cv_manager.specs.ManagerOf.{ManagerOf}
use Rattle.cv_audit.specs.Clauses.{HasRun}
use Rattle.cv_audit.proofs.verdict.missing.Goals as goal

pub loop-run-preserved : goal.loop-run-preserved
loop-run-preserved c = λ number below.
    let past = ap reverse c.history-history.ensures ∙ reverse-reverse c.manager.result.now.past ∙ ap (λ (m : ManagerOf). m.past) c.manager.ensures.value in
    ⊎_elim
    (λ low. c.loop-run.invariant number low)
    (λ high.
    let same : c.loop-run.run ≡ number = omega arith in
    subst (HasRun c.args.book.now.past) same (subst (λ (past : List Entry). HasRun past c.loop-run.run) past (c.has_run.ensures.has c.if-not-has_run.false)))
    (cases_lt number c.loop-run.run)
