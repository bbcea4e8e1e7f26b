use Rattle.cv_examples.proofs.Runs.{into_code}
use Rattle.cv_examples.proofs.facts.into_code.Goals as goal

pub returns : goal.returns
returns c = into_code
