use Rattle.std.proofs.Common.{◌≡◌, ◌++◌, drop, string_bytes}
use Rattle.cv_histories.specs.Report.{case_lines}
use Rattle.cv_manager.specs.ManagerOf.{cases_in, seen_in}
use Rattle.cv_report.proofs.cases.add_cases.Given as goal

abbrev pub invariant-loop-index : goal.invariant-loop-index
invariant-loop-index l =
    string_bytes l.text ++ case_lines l.manager.plan (seen_in l.manager) l.index (drop l.index (cases_in l.manager))
    ≡ string_bytes l.initial.text ++ case_lines l.manager.plan (seen_in l.manager) 0 (cases_in l.manager)
