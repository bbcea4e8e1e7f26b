use Rattle.cv_examples.proofs.NoRepairsReport.{no_repairs_reports}
use Rattle.cv_examples.proofs.jobs.no_repairs.Goals as goal

pub returns : goal.returns
returns c = no_repairs_reports
