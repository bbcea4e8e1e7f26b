-- A candidate violated once in one run and twice in the other.
use Rattle.std.specs.Prelude.{◌≡◌, refl}
use Rattle.std.specs.Fmt.{digits}
use Rattle.cv_isa.specs.DecodeTable.{row_of}
use Rattle.cv_isa.specs.Uses.{registers}
use Rattle.cv_runs.specs.PatchedRun.{patched_from}
use Rattle.cv_runs.specs.PlainRun.{steps_from}
use Rattle.cv_runs.specs.PlainTurn.{turn_of}
use Rattle.cv_histories.specs.Report.{report}
use Rattle.cv_histories.specs.Serial.{serial}
use Rattle.cv_examples.specs.ViolatedOnceAndTwice.{violated_once_and_twice_plan, violated_once_and_twice_report}

pub violated_once_and_twice_reports : report violated_once_and_twice_plan (serial violated_once_and_twice_plan) ≡ violated_once_and_twice_report
unfolding turn_of row_of registers steps_from patched_from digits
violated_once_and_twice_reports = refl
