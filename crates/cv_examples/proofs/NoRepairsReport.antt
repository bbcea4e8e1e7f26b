-- A case whose candidates are at most slightly correlated.
use Rattle.std.specs.Prelude.{◌≡◌, refl}
use Rattle.std.specs.Fmt.{digits}
use Rattle.cv_isa.specs.DecodeTable.{row_of}
use Rattle.cv_isa.specs.Uses.{registers}
use Rattle.cv_runs.specs.PatchedRun.{patched_from}
use Rattle.cv_runs.specs.PlainRun.{steps_from}
use Rattle.cv_runs.specs.PlainTurn.{turn_of}
use Rattle.cv_histories.specs.Report.{report}
use Rattle.cv_histories.specs.Serial.{serial}
use Rattle.cv_examples.specs.NoRepairs.{no_repairs_plan, no_repairs_report}

pub no_repairs_reports : report no_repairs_plan (serial no_repairs_plan) ≡ no_repairs_report
unfolding turn_of row_of registers steps_from patched_from digits
no_repairs_reports = refl
