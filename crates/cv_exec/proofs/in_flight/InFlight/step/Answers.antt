use Rattle.std.proofs.Common.{◌≡◌, ◌≤◌, ◌-◌, ◌∙◌, false, [], None, Some, sym, ap, arith}
use Rattle.std.specs.Prelude.{is_some}
use Rattle.cv_base.specs.PlanOf.{PlanOf}
use Rattle.cv_exec.specs.InFlightStands.{IsStarted}
use Rattle.cv_exec.specs.Keeping.{wants_by}
use Rattle.cv_exec.proofs.Moves.{learn_after, learn_flight, live_after, live_flight, may_turn_now}
use Rattle.cv_exec.proofs.Standing.{ends_none, over, stays}
use Rattle.cv_exec.proofs.in_flight.InFlight.step.Goals as goal

-- ---- a learn run

learn_old : (c : goal.After-took) → IsStarted c.self.inside.plan c.self.inside.machine None [] c.in-Learning.started
learn_old c = rw c.in-Learning.is at c.self.invariant.run

learn_on : (c : goal.After-took) → c.in-Learning.started.end ≡ None
learn_on c = ends_none _ _ _ _ _ (learn_old c) (rw (← c.self.view_is, c.in-Learning.is) at c.requires.goes_on)

learn_new : (c : goal.After-took) → IsStarted c.self.inside.plan c.turn-end.new.machine None [] c.took.new.self
learn_new c =
    let image = c.self.invariant.image in
    let left = ap (λ n. n - c.in-Learning.started.turns) (c.budget_of-budget.ensures.value ∙ ap (λ (p : PlanOf). p.budget) c.get.ensures) in
    rw c.took.ensures.turn
    (learn_after c.self.inside.plan c.self.inside.machine c.turn-end.new.machine c.in-Learning.started (learn_old c) (learn_on c) _ c.turn-end.result
    (rw image at c.turn-end.ensures.state)
    left
    (rw image at c.turn-end.ensures.end))

pub invariant_of-self : goal.invariant_of-self
invariant_of-self c = record {
  image = c.turn-end.ensures.image ∙ c.self.invariant.image;
  point = c.turn-end.ensures.point;
  ranged = c.self.invariant.ranged;
  run = learn_new c;
}

pub returns-in-Learning-clause-flight : goal.returns-in-Learning-clause-flight
returns-in-Learning-clause-flight c =
    rw (c.took.ensures.turn, ← c.self.view_is, c.in-Learning.is)
    (learn_flight c.self.inside.plan c.self.inside.machine c.turn-end.new.machine c.in-Learning.started (learn_old c) (learn_on c))

pub returns-in-Learning-clause-ended : goal.returns-in-Learning-clause-ended
returns-in-Learning-clause-ended c = c.took.ensures.ended ∙ sym (over _ _ _ _ _ (learn_new c) ∙ ap (λ s. is_some s.end) c.took.ensures.turn)

-- ---- a live run

pub turn-end-requires-in-Living : goal.turn-end-requires-in-Living
turn-end-requires-in-Living c =
    let few : c.self.inside.plan.budget ≤ 10000000 = omega (arith, c.budget_of-budget.ensures.few, rw c.get.ensures at c.budget_of-budget.ensures.value) in
    let old = rw c.in-Living.is at c.self.invariant.run in
    let none = ends_none _ _ _ _ _ old (rw (← c.self.view_is, c.in-Living.is) at c.requires.goes_on) in
    let still = stays _ _ _ _ old none (rw (← c.self.view_is, c.in-Living.is) at c.requires.entered) in
    may_turn_now c.self.inside.plan c.self.inside.machine c.self.inside.machine c.in-Living.started c.in-Living.patched old none still c.self.invariant.image c.self.invariant.point few

live_old : (c : goal.After-took-in-Living) → IsStarted c.self.inside.plan c.self.inside.machine (Some c.in-Living.patched) c.in-Living.patched.spans.items c.in-Living.started
live_old c = rw c.in-Living.is at c.self.invariant.run

live_on : (c : goal.After-took-in-Living) → c.in-Living.started.end ≡ None
live_on c = ends_none _ _ _ _ _ (live_old c) (rw (← c.self.view_is, c.in-Living.is) at c.requires.goes_on)

live_still : (c : goal.After-took-in-Living) → wants_by c.in-Living.patched ≡ false
live_still c = stays _ _ _ _ (live_old c) (live_on c) (rw (← c.self.view_is, c.in-Living.is) at c.requires.entered)

live_new : (c : goal.After-took-in-Living) → IsStarted c.self.inside.plan c.turn-end-in-Living.new.machine (Some c.turn-end-in-Living.new.self) c.turn-end-in-Living.new.self.spans.items c.took-in-Living.new.self
live_new c =
    let left = ap (λ n. n - c.in-Living.started.turns) (c.budget_of-budget.ensures.value ∙ ap (λ (p : PlanOf). p.budget) c.get.ensures) in
    let turn = c.turn-end-in-Living in
    rw c.took-in-Living.ensures.turn
    (live_after c.self.inside.plan c.self.inside.machine turn.new.machine c.in-Living.started c.in-Living.patched (live_old c) (live_on c) (live_still c)
    c.self.inside.machine.image turn.new.self _ turn.result c.self.invariant.image left turn.ensures.state turn.ensures.end turn.ensures.noted turn.ensures.next)

pub invariant_of-self-in-Living : goal.invariant_of-self-in-Living
invariant_of-self-in-Living c = record {
  image = c.turn-end-in-Living.ensures.image ∙ c.self.invariant.image;
  point = c.turn-end-in-Living.ensures.point;
  ranged = c.self.invariant.ranged;
  run = live_new c;
}

pub returns-in-Living-clause-flight : goal.returns-in-Living-clause-flight
returns-in-Living-clause-flight c =
    let spans = ap (λ v. v.items) c.turn-end-in-Living.ensures.noted.spans in
    rw (c.took-in-Living.ensures.turn, spans, ← c.self.view_is, c.in-Living.is)
    (live_flight c.self.inside.plan c.self.inside.machine c.turn-end-in-Living.new.machine c.in-Living.started c.in-Living.patched (live_old c) (live_on c) (live_still c))

pub returns-in-Living-clause-ended : goal.returns-in-Living-clause-ended
returns-in-Living-clause-ended c = c.took-in-Living.ensures.ended ∙ sym (over _ _ _ _ _ (live_new c) ∙ ap (λ s. is_some s.end) c.took-in-Living.ensures.turn)
