use Rattle.cv_laws.proofs.OneWorker.{worker_zero_is_serial}
use Rattle.cv_laws.proofs.worker_zero_is_serial.Goals as goal

-- src/lib.rt
pub returns : goal.returns
returns c = worker_zero_is_serial
