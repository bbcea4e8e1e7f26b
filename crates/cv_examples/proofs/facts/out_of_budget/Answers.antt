use Rattle.cv_examples.proofs.Runs.{out_of_budget}
use Rattle.cv_examples.proofs.facts.out_of_budget.Goals as goal

pub returns : goal.returns
returns c = out_of_budget
