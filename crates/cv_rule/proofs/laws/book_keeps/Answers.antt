use Rattle.cv_rule.proofs.WholeRule.{book_keeps}
use Rattle.cv_rule.proofs.laws.book_keeps.Goals as goal

-- src/laws.rt
pub returns : goal.returns
returns g c = book_keeps g.row.M.Denot g.row.T.Denot
