use Rattle.cv_rule.proofs.WholeRule.{enter_keeps}
use Rattle.cv_rule.proofs.laws.enter_keeps.Goals as goal

-- src/laws.rt
pub returns : goal.returns
returns g c = enter_keeps g.row.M.Denot g.row.T.Denot
