use Rattle.std.proofs.Common.{◌∙◌}
use Rattle.cv_office_examples.proofs.Steps.{live_may_post}
use Rattle.cv_office_examples.proofs.scene.Scene.live.Goals as goal

-- src/scene.rt
pub returns-clause-may : goal.returns-clause-may
returns-clause-may g c =
    let l = c.in-Ok.ensures in
    live_may_post c.args.self.now.plan.now c.args.pass c.make-adopter.result c.live-outcome.new.adopter c.into_pass-pass.result c.args.ticket.now c.in-Ok.outcome c.live-outcome.new.self c.worker-worker.result c.run.result
    c.requires.ticket c.worker-worker.ensures.worker c.run.ensures c.make-adopter.ensures c.into_pass-pass.ensures c.live-outcome.ensures.origin l.record_plan l.run l.by l.tables l.answers (c.live-outcome.ensures.plan ∙ c.requires.arena) l.observed
