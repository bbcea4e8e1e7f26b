-- A Return that fires and does nothing.
use Rattle.std.specs.Prelude.{◌≡◌, refl}
use Rattle.std.specs.Fmt.{digits}
use Rattle.cv_isa.specs.DecodeTable.{row_of}
use Rattle.cv_isa.specs.Uses.{registers}
use Rattle.cv_runs.specs.PatchedRun.{patched_from}
use Rattle.cv_runs.specs.PlainRun.{steps_from}
use Rattle.cv_runs.specs.PlainTurn.{turn_of}
use Rattle.cv_histories.specs.Report.{report}
use Rattle.cv_histories.specs.Serial.{serial}
use Rattle.cv_examples.specs.ReturnAtEnd.{return_at_end_plan}
use Rattle.cv_examples.specs.ReturnAtEndRest.{return_at_end_report}

pub return_at_end_reports : report return_at_end_plan (serial return_at_end_plan) ≡ return_at_end_report
unfolding turn_of row_of registers steps_from patched_from digits
return_at_end_reports = refl
