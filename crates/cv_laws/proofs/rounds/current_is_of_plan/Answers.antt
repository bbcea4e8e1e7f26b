use Rattle.cv_laws.proofs.RoundNumbers.{current_within}
use Rattle.cv_laws.proofs.rounds.current_is_of_plan.Goals as goal

-- src/rounds.rt
pub returns : goal.returns
returns c = current_within
