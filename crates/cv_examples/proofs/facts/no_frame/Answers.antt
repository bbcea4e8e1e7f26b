use Rattle.cv_examples.proofs.Runs.{no_frame}
use Rattle.cv_examples.proofs.facts.no_frame.Goals as goal

pub returns : goal.returns
returns c = no_frame
