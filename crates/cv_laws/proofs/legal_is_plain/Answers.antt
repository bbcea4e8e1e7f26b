use Rattle.cv_laws.proofs.Unfired.{legal_is_plain}
use Rattle.cv_laws.proofs.legal_is_plain.Goals as goal

-- src/lib.rt
pub returns : goal.returns
returns c = legal_is_plain
