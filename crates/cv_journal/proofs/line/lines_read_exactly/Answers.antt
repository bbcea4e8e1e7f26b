use Rattle.cv_journal.proofs.EntryLaw.{one_entry, read_exactly}
use Rattle.cv_journal.proofs.line.lines_read_exactly.Goals as goal

pub returns-clause-exactly : goal.returns-clause-exactly
returns-clause-exactly c = read_exactly

pub returns-clause-one : goal.returns-clause-one
returns-clause-one c = one_entry
