use Rattle.std.proofs.Common.{append_assoc}
use Rattle.cv_report.proofs.lists.TallyRowRow.text.Goals as goal

pub returns : goal.returns
returns c = rw (c.in_ok-format.ensures.ok, c.held_text-last.ensures) (simp append_assoc)
