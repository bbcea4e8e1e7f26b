use Rattle.std.proofs.Common.{◌∙◌, OnOk, Some, refl, sym, ap, subst}
use Rattle.cv_worker.proofs.Running.{has_taken, may_run}
use Rattle.cv_worker.proofs.instance.Instance.run_next.Goals as goal
use Rattle.cv_worker.specs.Instances.{HasPostedRun, InstanceOf}

-- src/instance.rt
pub take-taken-requires-clause-ticket : goal.take-taken-requires-clause-ticket
take-taken-requires-clause-ticket g c κs within =
    may_run c.args.plan.now c.args.round c.args.self.now c.in-Some.pass c.draw.new.self c.in-Some-draw.ticket c.requires.ready
    (sym (ap (λ (i : InstanceOf). i.pass) c.self.view_is) ∙ (sym c.take.ensures.value ∙ c.in-Some.is))
    c.in-Some-draw.ensures.drawn.0 c.in-Some-draw.ensures.drawn.1

pub returns-clause-taken : goal.returns-clause-taken
returns-clause-taken g c = λ more.
    let t = c.in-Some-draw.ticket in
    let posted = subst (λ o. OnOk o (HasPostedRun c.args.plan.now c.args.round t c.draw.new.self c.take-taken.result.pass)) c.in_ok-taken.was c.take-taken.ensures.posted in
    has_taken c.args.plan.now c.args.round c.args.self.now (record { plan = c.take-taken.new.arena.plan; pass = Some c.take-taken.result.pass; refused = c.self.inside.refused }) c.in-Some.pass c.draw.new.self c.take-taken.result.pass t c.requires.ready
    (sym (ap (λ (i : InstanceOf). i.pass) c.self.view_is) ∙ (sym c.take.ensures.value ∙ c.in-Some.is))
    c.in-Some-draw.ensures.drawn.0 posted
    (c.take-taken.ensures.plan ∙ (ap (λ (i : InstanceOf). i.plan) c.self.view_is ∙ c.requires.ready.arena))
    refl
