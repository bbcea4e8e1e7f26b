use Rattle.std.proofs.Common.{◌≡◌, ◌++◌, drop, string_bytes}
use Rattle.cv_histories.specs.Report.{candidate_lines}
use Rattle.cv_manager.specs.ManagerOf.{seen_in}
use Rattle.cv_report.proofs.cases.add_candidates.Given as goal

abbrev pub invariant-loop-number : goal.invariant-loop-number
invariant-loop-number l =
    string_bytes l.text ++ candidate_lines l.manager.plan l.index l.case (seen_in l.manager) l.number (drop l.number l.case.candidates)
    ≡ string_bytes l.initial.text ++ candidate_lines l.manager.plan l.index l.case (seen_in l.manager) 0 l.case.candidates
