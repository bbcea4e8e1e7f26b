use Rattle.cv_rule.proofs.WholeRule.{close_has_runs}
use Rattle.cv_rule.proofs.laws.close_has_runs.Goals as goal

-- src/laws.rt
pub returns : goal.returns
returns g c = close_has_runs g.row.M.Denot g.row.T.Denot
