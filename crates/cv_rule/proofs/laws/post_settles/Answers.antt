use Rattle.cv_rule.proofs.Settling.{post_settles}
use Rattle.cv_rule.proofs.laws.post_settles.Goals as goal

-- src/laws.rt
pub returns : goal.returns
returns g c = post_settles g.row.M.Denot g.row.T.Denot
