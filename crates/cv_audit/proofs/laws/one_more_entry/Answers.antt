use Rattle.cv_audit.proofs.Floors.{seen_more}
use Rattle.cv_audit.proofs.laws.one_more_entry.Goals as goal

pub returns : goal.returns
returns c = seen_more
