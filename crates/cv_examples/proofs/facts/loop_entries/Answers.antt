use Rattle.cv_examples.proofs.Blocks.{loop_entries}
use Rattle.cv_examples.proofs.facts.loop_entries.Goals as goal

pub returns : goal.returns
returns c = loop_entries
