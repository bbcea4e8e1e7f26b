use Rattle.cv_examples.proofs.Runs.{unwritable}
use Rattle.cv_examples.proofs.facts.unwritable.Goals as goal

pub returns : goal.returns
returns c = unwritable
