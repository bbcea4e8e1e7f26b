use Rattle.cv_laws.proofs.RunOrder.{count}
use Rattle.cv_laws.proofs.rounds.runs_are_counted.Goals as goal

-- src/rounds.rt
pub returns : goal.returns
returns c = count
