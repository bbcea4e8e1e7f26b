use Rattle.cv_examples.proofs.TwoSlotsFacts.{late_entries}
use Rattle.cv_examples.proofs.facts.late_entries.Goals as goal

pub returns : goal.returns
returns c = late_entries
