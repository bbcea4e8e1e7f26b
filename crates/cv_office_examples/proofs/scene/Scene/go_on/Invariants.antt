use Rattle.std.proofs.Common.{◌≡◌}
use Rattle.cv_office_examples.proofs.scene.Scene.go_on.Given as goal
use Rattle.cv_office_examples.specs.Taking.{IsFlying}

abbrev pub invariant-loop : goal.invariant-loop
invariant-loop g l = IsFlying l.self.plan.now l.pass l.ticket l.arena.going × (l.arena.plan ≡ l.fn.arena.plan)
