use Rattle.cv_rule.proofs.WholeRule.{draws_are_few}
use Rattle.cv_rule.proofs.laws.draws_are_few.Goals as goal

-- src/laws.rt
pub returns : goal.returns
returns g c = draws_are_few g.row.M.Denot g.row.T.Denot
