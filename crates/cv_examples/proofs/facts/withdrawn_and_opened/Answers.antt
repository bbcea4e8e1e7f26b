use Rattle.cv_examples.proofs.TwoSlotsFacts.{withdrawn_and_opened}
use Rattle.cv_examples.proofs.facts.withdrawn_and_opened.Goals as goal

pub returns : goal.returns
returns c = withdrawn_and_opened
