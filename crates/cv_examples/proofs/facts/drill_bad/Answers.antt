use Rattle.cv_examples.proofs.Drills.{drill_bad}
use Rattle.cv_examples.proofs.facts.drill_bad.Goals as goal

pub returns : goal.returns
returns c = drill_bad
