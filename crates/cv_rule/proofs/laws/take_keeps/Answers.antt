use Rattle.cv_rule.proofs.WholeRule.{take_keeps}
use Rattle.cv_rule.proofs.laws.take_keeps.Goals as goal

-- src/laws.rt
pub returns : goal.returns
returns g c = take_keeps g.row.M.Denot g.row.T.Denot
