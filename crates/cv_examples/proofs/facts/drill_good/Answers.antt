use Rattle.cv_examples.proofs.Drills.{drill_good}
use Rattle.cv_examples.proofs.facts.drill_good.Goals as goal

pub returns : goal.returns
returns c = drill_good
