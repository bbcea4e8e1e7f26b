use Rattle.cv_laws.proofs.Flown.{flown_is_plain}
use Rattle.cv_laws.proofs.flown_is_plain.Goals as goal

-- src/lib.rt
pub returns : goal.returns
returns c = flown_is_plain
