-- A less-than, repaired by a copy of the greater register.
use Rattle.std.specs.Prelude.{◌≡◌, refl}
use Rattle.std.specs.Fmt.{digits}
use Rattle.cv_isa.specs.DecodeTable.{row_of}
use Rattle.cv_isa.specs.Uses.{registers}
use Rattle.cv_runs.specs.PatchedRun.{patched_from}
use Rattle.cv_runs.specs.PlainRun.{steps_from}
use Rattle.cv_runs.specs.PlainTurn.{turn_of}
use Rattle.cv_histories.specs.Report.{report}
use Rattle.cv_histories.specs.Serial.{serial}
use Rattle.cv_examples.specs.CopyLow.{copy_low_plan, copy_low_report}

pub copy_low_reports : report copy_low_plan (serial copy_low_plan) ≡ copy_low_report
unfolding turn_of row_of registers steps_from patched_from digits
copy_low_reports = refl
