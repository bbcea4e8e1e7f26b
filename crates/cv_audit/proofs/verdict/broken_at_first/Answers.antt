use Rattle.std.proofs.Common.{◌∙◌, List, ap, reverse, subst}
use Rattle.std.proofs.lemmas.List.{reverse-reverse}
use Rattle.std.specs.Prelude.{IfSome}
use Rattle.cv_base.specs.declared.entries.Entry.{Entry}
use Rattle.cv_base.specs.PlanOf.{PlanOf}
use Rattle.cv_manager.specs.ManagerOf.{ManagerOf}
use Rattle.cv_audit.specs.Clauses.{Breaks}
use Rattle.cv_audit.specs.Floors.{PassesFirst}
use Rattle.cv_audit.proofs.verdict.broken_at_first.Goals as goal

pub returns-clause-broken : goal.returns-clause-broken
returns-clause-broken c =
    let past = ap reverse c.history-history.ensures ∙ reverse-reverse c.manager.result.now.past ∙ ap (λ (m : ManagerOf). m.past) c.manager.ensures.value in
    subst (λ (past : List Entry). IfSome c.first_broken.result (Breaks c.args.book.now.plan past c.args.entry.now)) past
    (subst (λ (plan : PlanOf). IfSome c.first_broken.result (Breaks plan (reverse c.history-history.result.now) c.args.entry.now)) c.plan.ensures c.first_broken.ensures.broken)

pub returns-clause-none : goal.returns-clause-none
returns-clause-none c = λ none.
    let past = ap reverse c.history-history.ensures ∙ reverse-reverse c.manager.result.now.past ∙ ap (λ (m : ManagerOf). m.past) c.manager.ensures.value in
    subst (λ (past : List Entry). PassesFirst c.args.book.now.plan past c.args.entry.now) past
    (subst (λ (plan : PlanOf). PassesFirst plan (reverse c.history-history.result.now) c.args.entry.now) c.plan.ensures (c.first_broken.ensures.none none))
