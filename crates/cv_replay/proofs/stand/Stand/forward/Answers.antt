use Rattle.std.proofs.Common.{refl}
use Rattle.cv_replay.proofs.NextTurn.{goes_on, turned_near, wants_none}
use Rattle.cv_replay.proofs.stand.Stand.forward.Goals as goal

pub step-requires-clause-goes_on : goal.step-requires-clause-goes_on
step-requires-clause-goes_on c = goes_on c.args.script.now c.args.self.now c.requires.at c.requires.script

pub step-requires-clause-entered : goal.step-requires-clause-entered
step-requires-clause-entered c = wants_none c.args.script.now c.args.self.now c.requires.at c.requires.script

pub enter-requires-clause-near : goal.enter-requires-clause-near
enter-requires-clause-near c =
    turned_near c.args.script.now c.args.self.now (record { flight = c.step.new.self; cursor = c.args.self.now.cursor }) c.requires.script c.requires.at c.requires.more
    c.step.ensures.turned c.step.ensures.flight c.step.ensures.plan refl
