use Rattle.cv_examples.proofs.TwoSlotsFacts.{late_wins}
use Rattle.cv_examples.proofs.facts.late_wins.Goals as goal

pub returns : goal.returns
returns c = late_wins
