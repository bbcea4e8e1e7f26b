use Rattle.cv_rule.proofs.WholeRule.{take_back_keeps}
use Rattle.cv_rule.proofs.laws.take_back_keeps.Goals as goal

-- src/laws.rt
pub returns : goal.returns
returns g c = take_back_keeps g.row.M.Denot g.row.T.Denot
