-- A repair that fails and stays.
use Rattle.std.specs.Prelude.{◌≡◌, refl}
use Rattle.std.specs.Fmt.{digits}
use Rattle.cv_isa.specs.DecodeTable.{row_of}
use Rattle.cv_isa.specs.Uses.{registers}
use Rattle.cv_runs.specs.PatchedRun.{patched_from}
use Rattle.cv_runs.specs.PlainRun.{steps_from}
use Rattle.cv_runs.specs.PlainTurn.{turn_of}
use Rattle.cv_histories.specs.Report.{report}
use Rattle.cv_histories.specs.Serial.{serial}
use Rattle.cv_examples.specs.KeptAfterFail.{kept_after_fail_plan}
use Rattle.cv_examples.specs.KeptAfterFailRest.{kept_after_fail_report}

pub kept_after_fail_reports : report kept_after_fail_plan (serial kept_after_fail_plan) ≡ kept_after_fail_report
unfolding turn_of row_of registers steps_from patched_from digits
kept_after_fail_reports = refl
