use Rattle.cv_rule.proofs.WholeRule.{loaded_may_be_posted}
use Rattle.cv_rule.proofs.laws.loaded_may_be_posted.Goals as goal

-- src/laws.rt
pub returns : goal.returns
returns g c = loaded_may_be_posted g.row.M.Denot g.row.T.Denot
