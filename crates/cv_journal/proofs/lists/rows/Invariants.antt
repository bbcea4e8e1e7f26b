use Rattle.std.proofs.Common.{◌≡◌}
use Rattle.std.specs.Option.{option_copied}
use Rattle.cv_journal.specs.Reading.{each, pieces}
use Rattle.cv_journal.specs.Steps.{pieces_left, prepended, text_left}
use Rattle.cv_journal.proofs.lists.rows.Given as goal

abbrev pub invariant-loop-left : goal.invariant-loop-left
invariant-loop-left g l = prepended l.rows.items (each g.R.Row.reading (pieces_left 44 (option_copied l.left))) ≡ each g.R.Row.reading (pieces 44 l.text)

abbrev pub decreases-loop-left : goal.decreases-loop-left
decreases-loop-left g l = text_left (option_copied l.left)
