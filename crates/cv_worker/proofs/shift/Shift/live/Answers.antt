use Rattle.cv_worker.proofs.Running.{live_ended}
use Rattle.cv_worker.proofs.shift.Shift.live.Goals as goal

-- src/shift.rt
pub returns-clause-outcome : goal.returns-clause-outcome
returns-clause-outcome g c =
    let l = c.live-outcome.ensures in
    live_ended c.live-outcome.result c.args.self.now.plan.now c.args.self.now.round c.args.pass c.make-adopter.result c.live-outcome.new.adopter c.into_pass.result c.args.ticket.now c.worker-worker.result c.run.result
    c.requires.ticket c.worker-worker.ensures.worker c.run.ensures c.make-adopter.ensures c.into_pass.ensures l.origin l.record_plan l.run l.by l.tables l.answers
