use Rattle.cv_examples.proofs.Runs.{writes}
use Rattle.cv_examples.proofs.facts.writes.Goals as goal

pub returns : goal.returns
returns c = writes
