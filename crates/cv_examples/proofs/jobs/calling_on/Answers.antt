use Rattle.cv_examples.proofs.CallingOnReport.{calling_on_reports}
use Rattle.cv_examples.proofs.jobs.calling_on.Goals as goal

pub returns : goal.returns
returns c = calling_on_reports
