use Rattle.cv_laws.proofs.OneWorkerRises.{legal_below}
use Rattle.cv_laws.proofs.legal_is_of_plan.Goals as goal

-- src/lib.rt
pub returns : goal.returns
returns c = legal_below
