use Rattle.cv_rule.proofs.WholeRule.{past_runs}
use Rattle.cv_rule.proofs.laws.past_runs.Goals as goal

-- src/laws.rt
pub returns : goal.returns
returns g c = past_runs g.row.M.Denot g.row.T.Denot
