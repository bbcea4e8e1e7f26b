use Rattle.cv_office_examples.proofs.Steps.{may_run}
use Rattle.cv_office_examples.proofs.scene.Scene.draw.Goals as goal

-- src/scene.rt
pub returns-clause-may : goal.returns-clause-may
returns-clause-may g c =
    may_run c.args.self.now.plan.now c.args.pass.now c.draw.new.self c.in-Some.ticket c.requires.ready c.in-Some.ensures.drawn.0 c.in-Some.ensures.drawn.1
