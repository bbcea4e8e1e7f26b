use Rattle.cv_examples.proofs.ReturnAtEndReport.{return_at_end_reports}
use Rattle.cv_examples.proofs.jobs.return_at_end.Goals as goal

pub returns : goal.returns
returns c = return_at_end_reports
