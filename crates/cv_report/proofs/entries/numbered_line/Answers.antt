use Rattle.std.proofs.Common.{◌∙◌}
use Rattle.cv_report.proofs.Parts.{entry_joined}
use Rattle.cv_report.proofs.entries.numbered_line.Goals as goal

pub returns : goal.returns
returns c =
    c.in_ok-format.ensures.ok
    ∙ entry_joined c.args.number c.args.entry.now _ _ _ _ c.in_ok-run.ensures c.in_ok-course.ensures c.in_ok-outcome.ensures
