use Rattle.cv_rule.proofs.WholeRule.{note_keeps}
use Rattle.cv_rule.proofs.laws.note_keeps.Goals as goal

-- src/laws.rt
pub returns : goal.returns
returns g c = note_keeps g.row.M.Denot g.row.T.Denot
