use Rattle.cv_examples.proofs.Runs.{damaged_return}
use Rattle.cv_examples.proofs.facts.damaged_return.Goals as goal

pub returns : goal.returns
returns c = damaged_return
