use Rattle.cv_isa.proofs.Inverse.{no_row, no_meaning}
use Rattle.cv_isa.proofs.table.no_meaning_without_row.Goals as goal

pub returns-clause-no_row : goal.returns-clause-no_row
returns-clause-no_row c = no_row

pub returns-clause-no_meaning : goal.returns-clause-no_meaning
returns-clause-no_meaning c = no_meaning
