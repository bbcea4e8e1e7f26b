-- Two failures, each with its case.
use Rattle.std.specs.Prelude.{◌≡◌, refl}
use Rattle.std.specs.Fmt.{digits}
use Rattle.cv_isa.specs.DecodeTable.{row_of}
use Rattle.cv_isa.specs.Uses.{registers}
use Rattle.cv_runs.specs.PatchedRun.{patched_from}
use Rattle.cv_runs.specs.PlainRun.{steps_from}
use Rattle.cv_runs.specs.PlainTurn.{turn_of}
use Rattle.cv_histories.specs.Report.{report}
use Rattle.cv_histories.specs.Serial.{serial}
use Rattle.cv_examples.specs.TwoFaults.{two_faults_plan}
use Rattle.cv_examples.specs.TwoFaultsRest.{two_faults_report}

pub two_faults_reports : report two_faults_plan (serial two_faults_plan) ≡ two_faults_report
unfolding turn_of row_of registers steps_from patched_from digits
two_faults_reports = refl
