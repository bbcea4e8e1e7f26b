use Rattle.cv_laws.proofs.PlainSteps.{no_turn}
use Rattle.cv_laws.proofs.turns.no_plain_turn.Goals as goal

-- src/turns.rt
pub returns : goal.returns
returns c = no_turn
