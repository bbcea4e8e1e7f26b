use Rattle.cv_resume.proofs.Growing.{rounds_join}
use Rattle.cv_resume.proofs.laws.rounds_join.Goals as goal

pub returns : goal.returns
returns c = rounds_join
