use Rattle.cv_audit.proofs.Lists.{contained}
use Rattle.cv_audit.proofs.laws.entries_are_contained.Goals as goal

pub returns : goal.returns
returns c = contained
