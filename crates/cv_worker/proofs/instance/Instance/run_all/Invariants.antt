use Rattle.cv_worker.proofs.instance.Instance.run_all.Given as goal
use Rattle.cv_worker.specs.Instances.{AreSeated, IsReady, IsSame}

abbrev pub invariant-loop : goal.invariant-loop
invariant-loop g l = IsReady l.plan l.round l.self × AreSeated IsSame l.fn.self.pass l.self.pass
