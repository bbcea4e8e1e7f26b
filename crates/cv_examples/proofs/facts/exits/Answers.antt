use Rattle.cv_examples.proofs.Runs.{exits}
use Rattle.cv_examples.proofs.facts.exits.Goals as goal

pub returns : goal.returns
returns c = exits
