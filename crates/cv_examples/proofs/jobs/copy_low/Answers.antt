use Rattle.cv_examples.proofs.CopyLowReport.{copy_low_reports}
use Rattle.cv_examples.proofs.jobs.copy_low.Goals as goal

pub returns : goal.returns
returns c = copy_low_reports
