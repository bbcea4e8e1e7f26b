use Rattle.cv_examples.proofs.CallingReport.{calling_reports}
use Rattle.cv_examples.proofs.jobs.calling.Goals as goal

pub returns : goal.returns
returns c = calling_reports
