use Rattle.cv_examples.proofs.Values.{five_values}
use Rattle.cv_examples.proofs.facts.five_values.Goals as goal

pub returns : goal.returns
returns c = five_values
