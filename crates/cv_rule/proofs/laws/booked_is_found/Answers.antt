use Rattle.cv_rule.proofs.Settling.{booked_is_found}
use Rattle.cv_rule.proofs.laws.booked_is_found.Goals as goal

-- src/laws.rt
pub returns : goal.returns
returns c = booked_is_found
