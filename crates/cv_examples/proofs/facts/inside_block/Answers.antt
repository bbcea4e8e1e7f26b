use Rattle.cv_examples.proofs.Runs.{inside_block}
use Rattle.cv_examples.proofs.facts.inside_block.Goals as goal

pub returns : goal.returns
returns c = inside_block
