use Rattle.cv_laws.proofs.PatchedSteps.{turn_first}
use Rattle.cv_laws.proofs.turns.patched_turn_first.Goals as goal

-- src/turns.rt
pub returns : goal.returns
returns c = turn_first
