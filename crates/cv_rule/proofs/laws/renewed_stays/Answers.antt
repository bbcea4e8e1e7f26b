use Rattle.cv_rule.proofs.WholeRule.{renewed_stays}
use Rattle.cv_rule.proofs.laws.renewed_stays.Goals as goal

-- src/laws.rt
pub returns : goal.returns
returns g c = renewed_stays g.row.M.Denot g.row.T.Denot
