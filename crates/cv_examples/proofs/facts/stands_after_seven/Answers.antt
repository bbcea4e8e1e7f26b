use Rattle.cv_examples.proofs.TwoSlotsFacts.{stands_after_seven}
use Rattle.cv_examples.proofs.facts.stands_after_seven.Goals as goal

pub returns : goal.returns
returns c = stands_after_seven
