use Rattle.cv_journal.proofs.CutLaw.{pieces_some}
use Rattle.cv_journal.proofs.laws.pieces_are_some.Goals as goal

pub returns : goal.returns
returns c = pieces_some
