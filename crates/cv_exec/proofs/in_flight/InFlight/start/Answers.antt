use Rattle.std.proofs.Common.{◌≡◌, ◌∙◌, ap, sym, arith}
use Rattle.std.specs.Prelude.{option_map}
use Rattle.cv_base.specs.PlanOf.{PlanOf}
use Rattle.cv_exec.proofs.Beginning.{Begun, begun_so}
use Rattle.cv_exec.proofs.Looking.{ok_holds}
use Rattle.cv_histories.specs.Flight.{begun}
use Rattle.cv_histories.specs.Runs.{Run, run_at}
use Rattle.cv_runs.specs.State.{start_state}
use Rattle.cv_exec.proofs.in_flight.InFlight.start.Goals as goal

begun_here : (c : goal.Joined-self-flying_for) → Begun c.self.inside.plan c.begin.new.self c.args.run c.flying_for.result
begun_here c =
    let plan = c.self.inside.plan in
    let same : c.args.plan.now ≡ plan = c.requires.plan ∙ ap (λ a. a.plan) (sym c.self.view_is) in
    let budget = ap (λ (p : PlanOf). p.budget) same in
    let workers = ap (λ (p : PlanOf). p.workers) same in
    begun_so plan c.begin.new.self c.args.run c.args.worker c.self.inside.text c.mode_of.result c.flying_for.result c.input_of-input.result.now
    (omega (arith, c.requires.worker, workers))
    (omega (arith, c.budget_of-budget.ensures.value, c.budget_of-budget.ensures.some, budget))
    c.self.invariant.ranged
    (rw same at c.mode_of.ensures)
    (rw same at c.input_of-input.ensures.input)
    (ok_holds c.begin.result c.begin.ensures.ok c.begin.ensures.start ∙ ap (λ image. start_state image c.input_of-input.result.now) c.self.invariant.image)
    c.flying_for.ensures

pub invariant_of-self : goal.invariant_of-self
invariant_of-self c = record {
  image = c.begin.ensures.image ∙ c.self.invariant.image;
  point = ok_holds c.begin.result c.begin.ensures.ok c.begin.ensures.point;
  ranged = c.self.invariant.ranged;
  run = (begun_here c).stands;
}

pub returns-clause-flight : goal.returns-clause-flight
returns-clause-flight c =
    (begun_here c).flight ∙ ap (λ (p : PlanOf). option_map (λ (r : Run). begun p c.args.run r) (run_at p c.args.run)) (ap (λ a. a.plan) c.self.view_is)

pub returns-clause-begins : goal.returns-clause-begins
returns-clause-begins c = (begun_here c).goes
