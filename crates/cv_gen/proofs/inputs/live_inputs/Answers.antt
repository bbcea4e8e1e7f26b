use Rattle.std.proofs.Common.{◌∙◌}
use Rattle.cv_gen.proofs.Choosing.{one_more}
use Rattle.cv_gen.proofs.inputs.live_inputs.Goals as goal

pub loop-preserved : goal.loop-preserved
loop-preserved c =
    one_more c.args.runs c.loop.counter c.loop.now c.next_number-now.result c.loop.inputs.items c.push.new.self.items _ c.in_ok-from_slice.field-0
    c.loop-test.true c.next_number-now.ensures (c.in_ok-from_slice.ensures ∙ c.chosen_input.ensures) c.in_ok-push.ensures.items c.loop.invariant
