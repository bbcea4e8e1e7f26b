use Rattle.cv_laws.proofs.Flown.{flown_is_of}
use Rattle.cv_laws.proofs.flown_is_of.Goals as goal

-- src/lib.rt
pub returns : goal.returns
returns c = flown_is_of
