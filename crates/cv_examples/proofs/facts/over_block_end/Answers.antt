use Rattle.cv_examples.proofs.Runs.{over_block_end}
use Rattle.cv_examples.proofs.facts.over_block_end.Goals as goal

pub returns : goal.returns
returns c = over_block_end
