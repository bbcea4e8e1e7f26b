use Rattle.cv_examples.proofs.StackShiftReport.{stack_shift_reports}
use Rattle.cv_examples.proofs.jobs.stack_shift.Goals as goal

pub returns : goal.returns
returns c = stack_shift_reports
