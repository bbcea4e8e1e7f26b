use Rattle.std.proofs.Common.{◌≡◌}
use Rattle.cv_office_examples.proofs.scene.Scene.take_so_many.Given as goal
use Rattle.cv_office_examples.specs.Taking.{IsReady, IsSameOffice}

abbrev pub invariant-loop : goal.invariant-loop
invariant-loop g l = (l.arena.plan ≡ l.self.plan.now) × IsReady l.self.plan.now l.pass × IsSameOffice l.fn.pass l.pass
