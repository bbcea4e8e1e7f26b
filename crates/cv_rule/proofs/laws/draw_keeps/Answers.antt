use Rattle.cv_rule.proofs.WholeRule.{draw_keeps}
use Rattle.cv_rule.proofs.laws.draw_keeps.Goals as goal

-- src/laws.rt
pub returns : goal.returns
returns g c = draw_keeps g.row.M.Denot g.row.T.Denot
