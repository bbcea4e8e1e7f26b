use Rattle.std.proofs.Common.{◌≡◌, ◌≤◌, true, Some, arith}
use Rattle.cv_exec.specs.ArenaOf.{wants}
use Rattle.cv_exec.specs.InFlightStands.{IsStarted, going_with}
use Rattle.cv_exec.specs.LiveRun.{MayAdopt}
use Rattle.cv_exec.proofs.Entering.{closed_entered, flight_entered, goes_entered, ready, room, stands_after}
use Rattle.cv_exec.proofs.in_flight.InFlight.adopt.Goals as goal

pub adopt-requires-clause-room : goal.adopt-requires-clause-room
adopt-requires-clause-room c =
    let plan = c.self.inside.plan in
    let g = c.in-Living.field-0 in
    let p = c.in-Living.patched in
    let few : plan.budget ≤ 10000000 = omega (arith, c.budget_of-budget.ensures.few, rw c.get.ensures at c.budget_of-budget.ensures.value) in
    room plan c.self.inside.machine g p (rw c.in-Living.is at c.self.invariant.run) (rw (← c.self.view_is, c.in-Living.is) at c.requires.wanted) few

pub adopt-requires-clause-ready : goal.adopt-requires-clause-ready
adopt-requires-clause-ready c =
    ready c.self.inside.plan c.self.inside.machine c.in-Living.field-0 c.in-Living.patched (rw c.in-Living.is at c.self.invariant.run) (rw (← c.self.view_is, c.in-Living.is) at c.requires.wanted)

old : (c : goal.After-adopt) → IsStarted c.self.inside.plan c.self.inside.machine (Some c.in-Living.patched) c.in-Living.patched.spans.items c.in-Living.field-0
old c = rw c.in-Living.is at c.self.invariant.run

wanting : (c : goal.After-adopt) → wants c.self.inside.plan (Some (going_with c.in-Living.field-0 c.in-Living.patched.spans.items)) ≡ true
wanting c = rw (← c.self.view_is, c.in-Living.is) at c.requires.wanted

may : (c : goal.After-adopt) → MayAdopt c.args.version c.args.table.value c.in-Living.patched.spans.items
may c = rw (← c.self.view_is, c.in-Living.is) at c.requires.may

pub invariant_of-self : goal.invariant_of-self
invariant_of-self c = record {
  image = c.self.invariant.image;
  point = c.self.invariant.point;
  ranged = c.self.invariant.ranged;
  run = stands_after c.self.inside.plan c.self.inside.machine c.in-Living.field-0 c.in-Living.patched (old c) (wanting c) c.args.version c.args.table.value (may c) c.adopt.new.self c.adopt.result c.adopt.ensures.ok c.adopt.ensures.err;
}

pub returns-clause-flight : goal.returns-clause-flight
returns-clause-flight c =
    rw (← c.self.view_is, c.in-Living.is)
    (flight_entered c.self.inside.plan c.self.inside.machine c.in-Living.field-0 c.in-Living.patched (old c) (wanting c) c.args.version c.args.table.value (may c) c.adopt.new.self c.adopt.result c.adopt.ensures.ok)

pub returns-clause-goes_on : goal.returns-clause-goes_on
returns-clause-goes_on c =
    goes_entered c.self.inside.plan c.self.inside.machine c.in-Living.field-0 c.in-Living.patched (old c) (wanting c) c.args.version c.args.table.value (may c) c.adopt.new.self c.adopt.result c.adopt.ensures.ok

pub returns-clause-entered : goal.returns-clause-entered
returns-clause-entered c =
    closed_entered c.self.inside.plan c.self.inside.machine c.in-Living.field-0 c.in-Living.patched (old c) (wanting c) c.args.version c.args.table.value (may c) c.adopt.new.self c.adopt.result c.adopt.ensures.ok
