use Rattle.cv_examples.proofs.KeptAfterFailReport.{kept_after_fail_reports}
use Rattle.cv_examples.proofs.jobs.kept_after_fail.Goals as goal

pub returns : goal.returns
returns c = kept_after_fail_reports
