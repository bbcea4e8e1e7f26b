-- What the two-slot program's histories come to.
use Rattle.std.specs.Prelude.{refl}
use Rattle.std.specs.Fmt.{digits}
use Rattle.cv_isa.specs.DecodeTable.{row_of}
use Rattle.cv_isa.specs.Uses.{registers}
use Rattle.cv_runs.specs.PatchedRun.{patched_from}
use Rattle.cv_runs.specs.PlainRun.{steps_from}
use Rattle.cv_runs.specs.PlainTurn.{turn_of}
use Rattle.cv_examples.specs.TwoSlotsFacts.{WithdrawnAndOpened, StandsAfterSeven, FirstLateWin, LateWins, LateEntries}

pub withdrawn_and_opened : WithdrawnAndOpened
unfolding turn_of row_of registers steps_from patched_from digits
withdrawn_and_opened = refl

pub stands_after_seven : StandsAfterSeven
unfolding turn_of row_of registers steps_from patched_from digits
stands_after_seven = refl

pub first_late_win : FirstLateWin
unfolding turn_of row_of registers steps_from patched_from digits
first_late_win = refl

pub late_wins : LateWins
unfolding turn_of row_of registers steps_from patched_from digits
late_wins = refl

pub late_entries : LateEntries
unfolding turn_of row_of registers steps_from patched_from digits
late_entries = refl
