use Rattle.cv_examples.proofs.Runs.{after_free}
use Rattle.cv_examples.proofs.facts.after_free.Goals as goal

pub returns : goal.returns
returns c = after_free
