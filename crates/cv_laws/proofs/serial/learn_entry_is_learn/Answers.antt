use Rattle.cv_laws.proofs.SerialEntry.{learn_ran}
use Rattle.cv_laws.proofs.serial.learn_entry_is_learn.Goals as goal

-- src/serial.rt
pub returns : goal.returns
returns c = learn_ran
