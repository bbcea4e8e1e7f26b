use Rattle.cv_examples.proofs.Runs.{calls_no_point}
use Rattle.cv_examples.proofs.facts.calls_no_point.Goals as goal

pub returns : goal.returns
returns c = calls_no_point
