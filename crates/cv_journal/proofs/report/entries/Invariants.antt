use Rattle.std.proofs.Common.{◌≡◌, ◌≤◌, ◌+◌, ◌^◌}
use Rattle.std.specs.Prelude.{take_while}
use Rattle.std.specs.Option.{option_copied}
use Rattle.cv_journal.specs.JournalOf.{begins_entry, entries_from}
use Rattle.cv_journal.specs.Steps.{pieces_left, read_before, text_left}
use Rattle.cv_journal.proofs.report.entries.Given as goal

abbrev pub invariant-loop-left : goal.invariant-loop-left
invariant-loop-left l = record {
  so_far : read_before l.entries.items (entries_from l.number (take_while begins_entry (pieces_left 10 (option_copied l.left))))
      ≡ entries_from 0 (take_while begins_entry (pieces_left 10 (option_copied l.lines)));
  few : l.number + text_left (option_copied l.left) ≤ 2 ^ 29;
}

abbrev pub decreases-loop-left : goal.decreases-loop-left
decreases-loop-left l = text_left (option_copied l.left)
