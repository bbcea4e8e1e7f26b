use Rattle.cv_examples.proofs.Runs.{past_block}
use Rattle.cv_examples.proofs.facts.past_block.Goals as goal

pub returns : goal.returns
returns c = past_block
