use Rattle.std.proofs.Common.{◌≡◌, ◌-◌, ◌++◌}
use Rattle.cv_histories.specs.DrillPlan.{live_inputs}
use Rattle.cv_gen.proofs.inputs.live_inputs.Given as goal

abbrev pub invariant-loop : goal.invariant-loop
invariant-loop l = l.inputs.items ++ live_inputs (l.runs - l.counter) l.now ≡ live_inputs l.runs l.number
