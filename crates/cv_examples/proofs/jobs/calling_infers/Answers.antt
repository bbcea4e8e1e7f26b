use Rattle.cv_examples.proofs.CallingLearned.{calling_learns}
use Rattle.cv_examples.proofs.jobs.calling_infers.Goals as goal

pub returns : goal.returns
returns c = calling_learns
