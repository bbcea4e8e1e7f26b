use Rattle.std.proofs.Common.{◌≡◌, None, replicate}
use Rattle.cv_world.proofs.world.idle.Given as goal

abbrev pub invariant-loop : goal.invariant-loop
invariant-loop l = l.instances.items ≡ replicate l.counter (record { plan = l.plan; going = None })
