use Rattle.std.proofs.Common.{◌≡◌, ◌++◌, string_bytes, take}
use Rattle.std.specs.Prelude.{reverse}
use Rattle.cv_histories.specs.Report.{entry_lines}
use Rattle.cv_resume.proofs.writing.lines_from.Given as goal

abbrev pub invariant-loop-number : goal.invariant-loop-number
invariant-loop-number l = entry_lines (reverse (take l.number l.history)) ≡ entry_lines (reverse (take l.first l.history)) ++ string_bytes l.text
