use Rattle.std.proofs.Common.{◌≡◌, ◌-◌, [], Some}
use Rattle.cv_exec.specs.ArenaOf.{has_ended, turns_in}
use Rattle.cv_exec.proofs.arena.Arena.learn.Given as goal

abbrev pub invariant-loop-over : goal.invariant-loop-over
invariant-loop-over l = record {
  plan : l.self.plan ≡ l.plan;
  going : l.self.going ≡ Some (record { run = l.run; worker = l.worker; turns = turns_in l.self.going; adopted = [] });
  over : l.over ≡ has_ended l.self;
}

abbrev pub decreases-loop-over : goal.decreases-loop-over
decreases-loop-over l = l.plan.budget - turns_in l.self.going
