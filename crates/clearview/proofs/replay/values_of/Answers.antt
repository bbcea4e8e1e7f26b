use Rattle.std.proofs.Common.{◌∙◌, ap, arith}
use Rattle.cv_base.specs.Registers.{register}
use Rattle.cv_machine.specs.Held.{state_of}
use Rattle.cv_shadow.specs.declared.frames.Core.{Core}
use Rattle.clearview.proofs.Visits.{all_values, more_values}
use Rattle.clearview.proofs.replay.values_of.Goals as goal

pub loop-number-preserved : goal.loop-number-preserved
loop-number-preserved c =
    more_values (state_of c.args.machine.now) c.loop-number.values.items c.push.new.self.items c.loop-number.number c.get.result
    (let range = c.loop-number.auto in omega arith) c.loop-number.invariant
    (c.get.ensures ∙ ap (λ (core : Core). register core.regs c.loop-number.number) c.core.ensures) c.in_ok-push.ensures.items

pub returns : goal.returns
returns c =
    all_values (state_of c.args.machine.now) c.loop-number.values.items c.loop-number.number
    (let range = c.loop-number.auto in let over = c.loop-number-test.false in omega arith) c.loop-number.invariant
