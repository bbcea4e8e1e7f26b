use Rattle.std.proofs.Common.{◌≡◌, ◌++◌, drop, string_bytes}
use Rattle.std.specs.Prelude.{reverse}
use Rattle.cv_report.specs.Pieces.{entry_lines_from}
use Rattle.cv_report.proofs.entries.add_entries.Given as goal

abbrev pub invariant-loop-number : goal.invariant-loop-number
invariant-loop-number l =
    string_bytes l.text ++ entry_lines_from l.number (drop l.number (reverse l.manager.past)) ≡ string_bytes l.initial.text ++ entry_lines_from 0 (reverse l.manager.past)
