use Rattle.cv_journal.proofs.NumberLaw.{number_reads}
use Rattle.cv_journal.proofs.laws.numbers_are_read_back.Goals as goal

pub returns : goal.returns
returns c = (number_reads.back, number_reads.forth)
