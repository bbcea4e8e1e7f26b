use Rattle.std.proofs.Common.{◌≡◌, ◌++◌, drop, string_bytes}
use Rattle.cv_histories.specs.Report.{makers, version_lines}
use Rattle.cv_manager.specs.ManagerOf.{ledger_in}
use Rattle.cv_report.proofs.whole.add_versions.Given as goal

abbrev pub invariant-loop-version : goal.invariant-loop-version
invariant-loop-version l =
    string_bytes l.text ++ version_lines l.version (drop l.version (makers l.manager.plan l.manager.past)) (drop l.version (ledger_in l.manager).versions)
    ≡ string_bytes l.initial.text ++ version_lines 0 (makers l.manager.plan l.manager.past) (ledger_in l.manager).versions
