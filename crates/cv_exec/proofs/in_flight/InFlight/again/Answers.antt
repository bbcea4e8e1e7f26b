use Rattle.std.proofs.Common.{◌≡◌, ◌≤◌, ◌∙◌, true, Some, sym, arith}
use Rattle.cv_exec.specs.ArenaOf.{wants}
use Rattle.cv_exec.specs.InFlightStands.{IsStarted, going_with}
use Rattle.cv_exec.proofs.Entering.{closed_again, goes_again, ready, room, stands_again}
use Rattle.cv_exec.proofs.Standing.{live_unseen}
use Rattle.cv_exec.proofs.in_flight.InFlight.again.Goals as goal

pub again-requires-clause-room : goal.again-requires-clause-room
again-requires-clause-room c =
    let plan = c.self.inside.plan in
    let g = c.in-Living.field-0 in
    let p = c.in-Living.patched in
    let few : plan.budget ≤ 10000000 = omega (arith, c.budget_of-budget.ensures.few, rw c.get.ensures at c.budget_of-budget.ensures.value) in
    room plan c.self.inside.machine g p (rw c.in-Living.is at c.self.invariant.run) (rw (← c.self.view_is, c.in-Living.is) at c.requires.wanted) few

pub again-requires-clause-ready : goal.again-requires-clause-ready
again-requires-clause-ready c =
    ready c.self.inside.plan c.self.inside.machine c.in-Living.field-0 c.in-Living.patched (rw c.in-Living.is at c.self.invariant.run) (rw (← c.self.view_is, c.in-Living.is) at c.requires.wanted)

old : (c : goal.After-again) → IsStarted c.self.inside.plan c.self.inside.machine (Some c.in-Living.patched) c.in-Living.patched.spans.items c.in-Living.field-0
old c = rw c.in-Living.is at c.self.invariant.run

wanting : (c : goal.After-again) → wants c.self.inside.plan (Some (going_with c.in-Living.field-0 c.in-Living.patched.spans.items)) ≡ true
wanting c = rw (← c.self.view_is, c.in-Living.is) at c.requires.wanted

new : (c : goal.After-again) → IsStarted c.self.inside.plan c.self.inside.machine (Some c.again.new.self) c.again.new.self.spans.items c.in-Living.field-0
new c =
    stands_again c.self.inside.plan c.self.inside.machine c.in-Living.field-0 c.in-Living.patched (old c) (wanting c) c.args.version c.again.new.self c.again.result
    c.again.ensures.known c.again.ensures.entered c.again.ensures.same

pub invariant_of-self : goal.invariant_of-self
invariant_of-self c = record {
  image = c.self.invariant.image;
  point = c.self.invariant.point;
  ranged = c.self.invariant.ranged;
  run = new c;
}

pub returns-clause-goes_on : goal.returns-clause-goes_on
returns-clause-goes_on c = λ was.
    goes_again c.self.inside.plan c.self.inside.machine c.in-Living.field-0 c.in-Living.patched (old c) (wanting c) c.args.version c.again.new.self (c.again.ensures.known was) (c.again.ensures.entered was)

pub returns-clause-entered : goal.returns-clause-entered
returns-clause-entered c = λ was.
    closed_again c.self.inside.plan c.self.inside.machine c.in-Living.field-0 c.in-Living.patched (old c) (wanting c) c.args.version c.again.new.self (c.again.ensures.known was) (c.again.ensures.entered was)

pub returns-clause-seen : goal.returns-clause-seen
returns-clause-seen c = rw (← c.self.view_is, c.in-Living.is) (live_unseen _ _ _ _ _ (new c) ∙ sym (live_unseen _ _ _ _ _ (old c)))
