use Rattle.cv_rule.proofs.WholeRule.{renew_keeps}
use Rattle.cv_rule.proofs.laws.renew_keeps.Goals as goal

-- src/laws.rt
pub returns : goal.returns
returns g c = renew_keeps g.row.M.Denot g.row.T.Denot
