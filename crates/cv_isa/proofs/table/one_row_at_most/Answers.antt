use Rattle.cv_isa.proofs.Inverse.{same_row}
use Rattle.cv_isa.proofs.table.one_row_at_most.Goals as goal

pub returns : goal.returns
returns c = same_row
