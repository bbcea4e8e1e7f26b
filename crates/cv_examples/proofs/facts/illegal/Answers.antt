use Rattle.cv_examples.proofs.Runs.{illegal}
use Rattle.cv_examples.proofs.facts.illegal.Goals as goal

pub returns : goal.returns
returns c = illegal
