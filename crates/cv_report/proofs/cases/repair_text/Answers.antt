use Rattle.std.proofs.Common.{append_assoc}
use Rattle.cv_report.proofs.cases.repair_text.Goals as goal

pub returns : goal.returns
returns c = rw (c.in_ok-format.ensures.ok, c.in_ok-action.ensures) (simp append_assoc)
