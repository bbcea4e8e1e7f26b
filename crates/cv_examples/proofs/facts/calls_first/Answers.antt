use Rattle.cv_examples.proofs.Runs.{calls_first}
use Rattle.cv_examples.proofs.facts.calls_first.Goals as goal

pub returns : goal.returns
returns c = calls_first
