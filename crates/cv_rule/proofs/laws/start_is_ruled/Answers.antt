use Rattle.cv_rule.proofs.WholeRule.{start_is_ruled}
use Rattle.cv_rule.proofs.laws.start_is_ruled.Goals as goal

-- src/laws.rt
pub returns : goal.returns
returns g c = start_is_ruled g.row.M.Denot g.row.T.Denot
