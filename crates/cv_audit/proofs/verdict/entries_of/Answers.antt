use Rattle.std.proofs.Common.{◌∙◌, length, ap, arith}
use Rattle.std.proofs.lemmas.List.{length-reverse}
use Rattle.cv_base.specs.PlanOf.{PlanOf}
use Rattle.cv_histories.specs.Runs.{runs}
use Rattle.cv_manager.specs.ManagerOf.{ManagerOf}
use Rattle.cv_audit.proofs.verdict.entries_of.Goals as goal

pub overflow_cast-result : goal.overflow_cast-result
overflow_cast-result c =
    let few = c.legal_is_few.ensures c.args.book.now.plan c.args.book.now.past c.manager.ensures.legal in
    let past = ap length c.history.ensures ∙ length-reverse c.manager.result.now.past ∙ ap (λ (m : ManagerOf). length m.past) c.manager.ensures.value in
    let many = c.runs_of-runs.ensures.count ∙ ap (λ (p : PlanOf). length (runs p)) c.plan.ensures in
    omega (arith, few, past, many, c.runs_of-runs.type_inv)
