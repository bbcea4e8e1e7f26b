use Rattle.std.proofs.Common.{refl, sym}
use Rattle.cv_histories.specs.Report.{case_lines}
use Rattle.cv_manager.specs.ManagerOf.{cases_in, seen_in}
use Rattle.cv_report.proofs.Lines.{one_more}
use Rattle.cv_report.specs.Pieces.{lines_of_case}
use Rattle.cv_report.proofs.cases.add_cases.Goals as goal

pub loop-index-preserved : goal.loop-index-preserved
loop-index-preserved c =
    one_more (case_lines c.args.manager.now.plan (seen_in c.args.manager.now)) (cases_in c.args.manager.now) c.loop-index.index c.case-case.result.now
    (lines_of_case c.args.manager.now c.loop-index.index c.case-case.result.now) _ _ _ (sym c.case-case.ensures.value) refl c.loop-index.invariant c.in_ok-add_case.ensures
