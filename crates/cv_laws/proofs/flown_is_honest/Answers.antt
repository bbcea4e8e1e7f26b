use Rattle.cv_laws.proofs.Flown.{flown_is_honest}
use Rattle.cv_laws.proofs.flown_is_honest.Goals as goal

-- src/lib.rt
pub returns : goal.returns
returns c = flown_is_honest
