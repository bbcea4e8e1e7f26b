use Rattle.std.proofs.Common.{◌≡◌, ◌++◌, drop, string_bytes}
use Rattle.cv_histories.specs.Repairs.{repairs_of}
use Rattle.cv_histories.specs.Report.{repair_lines}
use Rattle.cv_manager.specs.ManagerOf.{seen_in}
use Rattle.cv_report.proofs.cases.add_repairs.Given as goal

abbrev pub invariant-loop-number : goal.invariant-loop-number
invariant-loop-number l =
    string_bytes l.text ++ repair_lines l.index l.case (seen_in l.manager) l.number (drop l.number (repairs_of l.manager.plan l.index l.case (seen_in l.manager)))
    ≡ string_bytes l.initial.text ++ repair_lines l.index l.case (seen_in l.manager) 0 (repairs_of l.manager.plan l.index l.case (seen_in l.manager))
