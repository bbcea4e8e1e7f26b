use Rattle.std.proofs.Common.{append_assoc}
use Rattle.cv_job.proofs.line.line_of.Goals as goal

pub returns : goal.returns
returns c = rw c.in_ok-line.ensures.ok (simp append_assoc)
