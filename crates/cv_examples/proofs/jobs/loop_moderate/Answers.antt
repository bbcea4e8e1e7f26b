use Rattle.cv_examples.proofs.LoopModerateReport.{loop_moderate_reports}
use Rattle.cv_examples.proofs.jobs.loop_moderate.Goals as goal

pub returns : goal.returns
returns c = loop_moderate_reports
