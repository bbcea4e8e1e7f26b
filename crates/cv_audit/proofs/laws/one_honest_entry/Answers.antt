use Rattle.cv_audit.proofs.OneEntry.{one_honest_entry}
use Rattle.cv_audit.proofs.laws.one_honest_entry.Goals as goal

pub returns : goal.returns
returns c = one_honest_entry c.patched_turn_first.ensures c.rows_are_joined.ensures c.under_tables.ensures
