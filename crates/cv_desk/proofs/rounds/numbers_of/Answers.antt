use Rattle.std.proofs.Common.{◌≡◌, ◌≤◌, ◌∙◌, length, sym, ap, arith}
use Rattle.cv_base.specs.PlanOf.{PlanOf}
use Rattle.cv_base.specs.declared.plan.Round.{Round}
use Rattle.cv_histories.specs.Runs.{runs}
use Rattle.cv_desk.proofs.RoundNumbers.{few_runs, numbers_lie, numbers_within}
use Rattle.cv_desk.proofs.rounds.numbers_of.Goals as goal

same : (c : goal.After-as_slice) → c.as_slice-rounds.result.now ≡ c.args.plan.now.rounds
same c = c.as_slice-rounds.ensures ∙ ap (λ (p : PlanOf). p.rounds) c.plan.view_is

inputs : (c : goal.After-as_slice) → c.as_slice.result.now ≡ c.index-rounds-round.result.inputs
inputs c = c.as_slice.ensures ∙ ap (λ (r : Round). r.inputs) (sym c.index-rounds-round.is)

pub returns-clause-numbers : goal.returns-clause-numbers
returns-clause-numbers c =
    rw (c.runs_in-first.ensures, inputs c)
    (numbers_lie c.args.plan.now c.as_slice-rounds.result.now c.args.round c.index-rounds-round.result (same c) c.requires c.index-rounds-round.is)

pub returns-clause-few : goal.returns-clause-few
returns-clause-few c =
    let few : length (runs c.args.plan.now) ≤ 1024 = few_runs c.runs_are_counted.ensures c.args.plan.now c.plan.inside.rounds (ap (λ (p : PlanOf). p.rounds) c.plan.view_is) c.plan.invariant.few_runs in
    rw (c.runs_in-first.ensures, inputs c)
    (let within = numbers_within c.runs_are_counted.ensures c.args.plan.now c.as_slice-rounds.result.now c.args.round c.index-rounds-round.result (same c) c.requires c.index-rounds-round.is in omega arith)
