use Rattle.cv_patch.proofs.Restores.{set_restores}
use Rattle.cv_patch.proofs.laws.set_restores.Goals as goal

pub returns : goal.returns
returns c = set_restores
