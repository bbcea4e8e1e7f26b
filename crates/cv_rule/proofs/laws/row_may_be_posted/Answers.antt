use Rattle.cv_rule.proofs.WholeRule.{row_may_be_posted}
use Rattle.cv_rule.proofs.laws.row_may_be_posted.Goals as goal

-- src/laws.rt
pub returns : goal.returns
returns g c = row_may_be_posted g.row.M.Denot g.row.T.Denot
