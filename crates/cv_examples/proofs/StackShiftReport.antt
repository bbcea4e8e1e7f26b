-- An offset of sp, restored at three points.
use Rattle.std.specs.Prelude.{◌≡◌, refl}
use Rattle.std.specs.Fmt.{digits}
use Rattle.cv_isa.specs.DecodeTable.{row_of}
use Rattle.cv_isa.specs.Uses.{registers}
use Rattle.cv_runs.specs.PatchedRun.{patched_from}
use Rattle.cv_runs.specs.PlainRun.{steps_from}
use Rattle.cv_runs.specs.PlainTurn.{turn_of}
use Rattle.cv_histories.specs.Report.{report}
use Rattle.cv_histories.specs.Serial.{serial}
use Rattle.cv_examples.specs.StackShift.{stack_shift_plan, stack_shift_report}

pub stack_shift_reports : report stack_shift_plan (serial stack_shift_plan) ≡ stack_shift_report
unfolding turn_of row_of registers steps_from patched_from digits
stack_shift_reports = refl
