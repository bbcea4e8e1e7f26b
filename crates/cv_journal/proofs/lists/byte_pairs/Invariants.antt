use Rattle.std.proofs.Common.{◌≡◌, length}
use Rattle.cv_journal.specs.Reading.{byte_pairs}
use Rattle.cv_journal.specs.Steps.{prepended}
use Rattle.cv_journal.proofs.lists.byte_pairs.Given as goal

abbrev pub invariant-loop-left : goal.invariant-loop-left
invariant-loop-left l = prepended l.bytes.items (byte_pairs l.left) ≡ byte_pairs l.text

abbrev pub decreases-loop-left : goal.decreases-loop-left
decreases-loop-left l = length l.left
