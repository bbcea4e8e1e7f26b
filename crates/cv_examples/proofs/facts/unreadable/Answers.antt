use Rattle.cv_examples.proofs.Runs.{unreadable}
use Rattle.cv_examples.proofs.facts.unreadable.Goals as goal

pub returns : goal.returns
returns c = unreadable
