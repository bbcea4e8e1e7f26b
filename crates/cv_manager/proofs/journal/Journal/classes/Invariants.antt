use Rattle.std.proofs.Common.{◌≡◌, length, take}
use Rattle.std.specs.Prelude.{filter, reverse}
use Rattle.cv_class.specs.Counted.{StandsFor}
use Rattle.cv_histories.specs.Classes.{is_checked_failure}
use Rattle.cv_manager.proofs.journal.Journal.classes.Given as goal

abbrev pub invariant-loop-place : goal.invariant-loop-place
invariant-loop-place l = record {
  case : l.classes.case ≡ l.number;
  candidates : length l.classes.marks ≡ length l.case.candidates;
  counted : StandsFor l.classes (filter (is_checked_failure l.number l.case) (take l.place (reverse l.self)));
}
