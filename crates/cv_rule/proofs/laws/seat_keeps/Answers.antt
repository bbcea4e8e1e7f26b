use Rattle.cv_rule.proofs.WholeRule.{seat_keeps}
use Rattle.cv_rule.proofs.laws.seat_keeps.Goals as goal

-- src/laws.rt
pub returns : goal.returns
returns g c = seat_keeps g.row.M.Denot g.row.T.Denot
