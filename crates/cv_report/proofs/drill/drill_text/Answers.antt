use Rattle.std.proofs.Common.{◌∙◌, ap, length}
use Rattle.std.specs.Prelude.{filter}
use Rattle.cv_base.specs.declared.cases.Change.{Change}
use Rattle.cv_histories.specs.OtherTexts.{is_withdrawal}
use Rattle.cv_report.proofs.Counts.{drill_joined}
use Rattle.cv_report.specs.Pieces.{ends_text}
use Rattle.cv_report.proofs.drill.drill_text.Goals as goal

pub returns : goal.returns
returns c =
    drill_joined c.args.manager.now _ _ c.case_count-cases.result c.version_count-versions.result c.withdrawals-withdrawals.result
    (c.in_ok-ends.ensures ∙ ap ends_text c.history.ensures) c.case_count-cases.ensures c.version_count-versions.ensures.count
    (c.withdrawals-withdrawals.ensures ∙ ap (λ l. length (filter is_withdrawal l)) c.changes.ensures) c.in_ok-format.ensures.ok
