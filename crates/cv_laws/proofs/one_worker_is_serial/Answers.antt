use Rattle.cv_laws.proofs.OneWorker.{one_worker_is_serial}
use Rattle.cv_laws.proofs.one_worker_is_serial.Goals as goal

-- src/lib.rt
pub returns : goal.returns
returns c = one_worker_is_serial
