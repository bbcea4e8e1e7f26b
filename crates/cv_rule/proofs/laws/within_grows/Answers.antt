use Rattle.cv_rule.proofs.Versions.{within_grows}
use Rattle.cv_rule.proofs.laws.within_grows.Goals as goal

-- src/laws.rt
pub returns : goal.returns
returns c = within_grows
