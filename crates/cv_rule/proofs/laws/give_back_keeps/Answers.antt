use Rattle.cv_rule.proofs.WholeRule.{give_back_keeps}
use Rattle.cv_rule.proofs.laws.give_back_keeps.Goals as goal

-- src/laws.rt
pub returns : goal.returns
returns g c = give_back_keeps g.row.M.Denot g.row.T.Denot
