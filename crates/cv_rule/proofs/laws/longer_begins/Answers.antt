use Rattle.cv_rule.proofs.Prefixes.{begins_longer}
use Rattle.cv_rule.proofs.laws.longer_begins.Goals as goal

-- src/laws.rt
pub returns : goal.returns
returns g c = begins_longer
