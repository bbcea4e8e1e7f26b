use Rattle.cv_rule.proofs.WholeRule.{end_keeps}
use Rattle.cv_rule.proofs.laws.end_keeps.Goals as goal

-- src/laws.rt
pub returns : goal.returns
returns g c = end_keeps g.row.M.Denot g.row.T.Denot
