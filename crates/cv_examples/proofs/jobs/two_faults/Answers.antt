use Rattle.cv_examples.proofs.TwoFaultsReport.{two_faults_reports}
use Rattle.cv_examples.proofs.jobs.two_faults.Goals as goal

pub returns : goal.returns
returns c = two_faults_reports
