use Rattle.std.proofs.Common.{◌≡◌, drop, length}
use Rattle.cv_journal.specs.Steps.{prepended}
use Rattle.cv_resume.specs.Kept.{entries_at}
use Rattle.cv_resume.specs.Texts.{texts_of}
use Rattle.cv_resume.proofs.reading.with_lines.Given as goal

abbrev pub invariant-loop-line : goal.invariant-loop-line
invariant-loop-line l =
    prepended l.entries (entries_at (length l.entries) (texts_of (drop l.line-index l.lines))) ≡ prepended l.fn.before (entries_at (length l.fn.before) (texts_of l.lines))
