use Rattle.cv_laws.proofs.InOrder.{below_is_whole}
use Rattle.cv_laws.proofs.serial.below_is_whole.Goals as goal

-- src/serial.rt
pub returns : goal.returns
returns c = below_is_whole
