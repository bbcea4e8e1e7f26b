use Rattle.cv_laws.proofs.Room.{legal_is_few}
use Rattle.cv_laws.proofs.legal_is_few.Goals as goal

-- src/lib.rt
pub returns : goal.returns
returns c = legal_is_few
