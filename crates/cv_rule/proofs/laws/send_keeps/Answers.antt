use Rattle.cv_rule.proofs.WholeRule.{send_keeps}
use Rattle.cv_rule.proofs.laws.send_keeps.Goals as goal

-- src/laws.rt
pub returns : goal.returns
returns g c = send_keeps g.row.M.Denot g.row.T.Denot
