use Rattle.cv_journal.proofs.CutLaw.{pieces_join}
use Rattle.cv_journal.proofs.laws.pieces_join_again.Goals as goal

pub returns : goal.returns
returns c = pieces_join
