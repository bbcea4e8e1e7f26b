use Rattle.cv_examples.proofs.ViolatedOnceAndTwiceReport.{violated_once_and_twice_reports}
use Rattle.cv_examples.proofs.jobs.violated_once_and_twice.Goals as goal

pub returns : goal.returns
returns c = violated_once_and_twice_reports
