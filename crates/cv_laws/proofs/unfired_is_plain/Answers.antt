use Rattle.cv_laws.proofs.Unfired.{unfired_is_plain}
use Rattle.cv_laws.proofs.unfired_is_plain.Goals as goal

-- src/lib.rt
pub returns : goal.returns
returns c = unfired_is_plain
