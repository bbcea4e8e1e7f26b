use Rattle.cv_examples.proofs.TwoSlotsFacts.{first_late_win}
use Rattle.cv_examples.proofs.facts.first_late_win.Goals as goal

pub returns : goal.returns
returns c = first_late_win
