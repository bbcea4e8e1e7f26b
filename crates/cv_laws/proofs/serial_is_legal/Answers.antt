use Rattle.cv_laws.proofs.SerialHistory.{serial_is_legal}
use Rattle.cv_laws.proofs.serial_is_legal.Goals as goal

-- src/lib.rt
pub returns : goal.returns
returns c = serial_is_legal
