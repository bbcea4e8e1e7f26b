use Rattle.cv_worker.proofs.Running.{has_mode}
use Rattle.cv_worker.proofs.shift.Shift.run.Goals as goal

-- src/shift.rt
pub unreachable-requires : goal.unreachable-requires
unreachable-requires g c =
    has_mode c.numbers_are_of_round.ensures c.args.self.now.plan.now c.args.self.now.round c.args.pass c.args.ticket.now c.run.result c.mode_of.result c.requires.ticket c.run.ensures c.mode_of.ensures c.in-None.is
