use Rattle.std.proofs.Common.{◌≡◌, ◌<◌, ◌+◌, ◌∙◌, None, Some, ap, subst, sym, arith}
use Rattle.std.specs.Prelude.{is_some}
use Rattle.std.proofs.lemmas.Bool.Decides.{nat_tests}
use Rattle.cv_base.specs.PlanOf.{PlanOf}
use Rattle.cv_exec.specs.InFlightStands.{IsStarted}
use Rattle.cv_exec.specs.Keeping.{last_table}
use Rattle.cv_exec.specs.Passing.{EndsBy}
use Rattle.cv_exec.proofs.Passing.{ends_less, less_free, passes_on, ready_now, turns_left}
use Rattle.cv_exec.proofs.Standing.{ends_none, live_unseen, over, stays}
use Rattle.cv_patch.specs.Indexing.{AreFree}
use Rattle.cv_shadow.specs.declared.frames.Core.{Core}
use Rattle.cv_exec.proofs.in_flight.InFlight.pass.Goals as goal

pub free-most-requires : goal.free-most-requires
free-most-requires c =
    let r : IsStarted c.self.inside.plan c.self.inside.machine (Some c.in-Living.patched) c.in-Living.patched.spans.items c.in-Living.started = rw c.in-Living.is at c.self.invariant.run in
    let none = ends_none _ _ _ _ _ r (rw (← c.self.view_is, c.in-Living.is) at c.requires.goes_on) in
    let still = stays _ _ _ _ r none (rw (← c.self.view_is, c.in-Living.is) at c.requires.entered) in
    ready_now c.self.inside.plan c.self.inside.machine c.self.inside.machine c.in-Living.started c.in-Living.patched r none still

old : (c : goal.After-started-in-Living-1) → IsStarted c.self.inside.plan c.self.inside.machine (Some c.in-Living.patched) c.in-Living.patched.spans.items c.in-Living.started
old c = rw c.in-Living.is at c.self.invariant.run

goes : (c : goal.After-started-in-Living-1) → c.in-Living.started.end ≡ None
goes c = ends_none _ _ _ _ _ (old c) (rw (← c.self.view_is, c.in-Living.is) at c.requires.goes_on)

new : (c : goal.After-started-in-Living-1) → IsStarted c.self.inside.plan c.stretch-stretch.new.self (Some c.pass.new.self) c.pass.new.self.spans.items (record c.in-Living.started { turns = c.in-Living.started.turns + c.stretch-stretch.result.turns })
new c =
    let plan = c.self.inside.plan in
    let m = c.self.inside.machine in
    let g = c.in-Living.started in
    let p = c.in-Living.patched in
    let made = c.stretch-stretch.result in
    let still = stays _ _ _ _ (old c) (goes c) (rw (← c.self.view_is, c.in-Living.is) at c.requires.entered) in
    let some : 0 < made.turns = grind (arith, nat_tests, c.if-stretch-eq0.false) in
    let ends : EndsBy p.rule made.turns = ends_less p.rule made.turns c.free-most.result c.stretch-stretch.ensures.most c.free-most.ensures.ends in
    let budget = c.budget_of-budget.ensures.value ∙ ap (λ (p : PlanOf). p.budget) c.get.ensures in
    let below = turns_left plan m c.stretch-stretch.new.self g p (old c) (goes c) in
    let left : g.turns + made.turns < plan.budget = omega (arith, budget, below, c.free-most.ensures.most, c.stretch-stretch.ensures.most) in
    let free : AreFree (last_table p.spans.items) c.free-most.result m.core.pc = subst (λ (core : Core). AreFree (last_table p.spans.items) c.free-most.result core.pc) c.core.ensures c.free-most.ensures.free in
    rw c.pass.ensures
    (passes_on plan m c.stretch-stretch.new.self g p (old c) (goes c) still m.image made.turns made.transfer c.self.invariant.image some ends left
    (less_free (last_table p.spans.items) made.turns c.free-most.result m.core.pc c.stretch-stretch.ensures.most free) c.stretch-stretch.ensures.turns)

pub invariant_of-self-in-Living-1 : goal.invariant_of-self-in-Living-1
invariant_of-self-in-Living-1 c = record {
  image = c.stretch-stretch.ensures.image ∙ c.self.invariant.image;
  point = c.stretch-stretch.ensures.point;
  ranged = c.self.invariant.ranged;
  run = new c;
}

pub returns-else-stretch-eq0-clause-goes_on : goal.returns-else-stretch-eq0-clause-goes_on
returns-else-stretch-eq0-clause-goes_on c = over _ _ _ _ _ (new c) ∙ ap is_some (goes c)

pub returns-else-stretch-eq0-clause-seen : goal.returns-else-stretch-eq0-clause-seen
returns-else-stretch-eq0-clause-seen c = rw (← c.self.view_is, c.in-Living.is) (live_unseen _ _ _ _ _ (new c) ∙ sym (live_unseen _ _ _ _ _ (old c)))
