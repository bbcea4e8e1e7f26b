use Rattle.cv_examples.proofs.Runs.{breaks}
use Rattle.cv_examples.proofs.facts.breaks.Goals as goal

pub returns : goal.returns
returns c = breaks
