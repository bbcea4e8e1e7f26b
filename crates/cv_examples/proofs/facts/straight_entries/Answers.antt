use Rattle.cv_examples.proofs.Blocks.{straight_entries}
use Rattle.cv_examples.proofs.facts.straight_entries.Goals as goal

pub returns : goal.returns
returns c = straight_entries
