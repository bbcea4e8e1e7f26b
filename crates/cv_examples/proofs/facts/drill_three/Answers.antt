use Rattle.cv_examples.proofs.Drills.{drill_three}
use Rattle.cv_examples.proofs.facts.drill_three.Goals as goal

pub returns : goal.returns
returns c = drill_three
