use Rattle.cv_manager.proofs.RunPoints.{sites_are_points}
use Rattle.cv_manager.proofs.laws.sites_are_points.Goals as goal

pub returns : goal.returns
returns c = sites_are_points
