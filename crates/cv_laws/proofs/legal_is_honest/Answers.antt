use Rattle.cv_laws.proofs.HonestStays.{legal_is_honest}
use Rattle.cv_laws.proofs.legal_is_honest.Goals as goal

-- src/lib.rt
pub returns : goal.returns
returns c = legal_is_honest
