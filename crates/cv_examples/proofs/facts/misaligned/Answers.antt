use Rattle.cv_examples.proofs.Runs.{misaligned}
use Rattle.cv_examples.proofs.facts.misaligned.Goals as goal

pub returns : goal.returns
returns c = misaligned
