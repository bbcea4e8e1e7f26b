use Rattle.cv_examples.proofs.Runs.{reads_past_block}
use Rattle.cv_examples.proofs.facts.reads_past_block.Goals as goal

pub returns : goal.returns
returns c = reads_past_block
