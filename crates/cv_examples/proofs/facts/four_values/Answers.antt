use Rattle.cv_examples.proofs.Values.{four_values}
use Rattle.cv_examples.proofs.facts.four_values.Goals as goal

pub returns : goal.returns
returns c = four_values
