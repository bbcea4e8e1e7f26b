use Rattle.std.proofs.Common.{◌≡◌, ◌≤◌, ◌-◌}
use Rattle.cv_replay.specs.Standing.{AreCopies, IsWalk, plan_of, turn_of}
use Rattle.cv_replay.proofs.copies.Copies.advance.Given as goal

abbrev pub invariant-loop-alloc : goal.invariant-loop-alloc
invariant-loop-alloc l = record {
  plan : plan_of l.walk ≡ plan_of l.fn.walk;
  at : IsWalk l.script l.walk;
  turn : turn_of l.walk.stand ≤ l.to;
  copies : AreCopies (plan_of l.fn.walk) l.script l.self;
}

abbrev pub decreases-loop-alloc : goal.decreases-loop-alloc
decreases-loop-alloc l = l.to - turn_of l.walk.stand
