use Rattle.cv_rule.proofs.WholeRule.{news_keeps}
use Rattle.cv_rule.proofs.laws.news_keeps.Goals as goal

-- src/laws.rt
pub returns : goal.returns
returns g c = news_keeps g.row.M.Denot g.row.T.Denot
