use Rattle.cv_laws.proofs.RunOrder.{earlier_below}
use Rattle.cv_laws.proofs.rounds.earlier_is_below.Goals as goal

-- src/rounds.rt
pub returns : goal.returns
returns c = earlier_below
