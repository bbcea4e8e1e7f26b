use Rattle.cv_rule.proofs.WholeRule.{announce_keeps}
use Rattle.cv_rule.proofs.laws.announce_keeps.Goals as goal

-- src/laws.rt
pub returns : goal.returns
returns g c = announce_keeps g.row.M.Denot g.row.T.Denot
