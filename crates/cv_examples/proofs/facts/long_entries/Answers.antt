use Rattle.cv_examples.proofs.Blocks.{long_entries}
use Rattle.cv_examples.proofs.facts.long_entries.Goals as goal

pub returns : goal.returns
returns c = long_entries
