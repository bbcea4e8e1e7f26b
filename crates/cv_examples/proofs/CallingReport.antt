-- A program that reads an address and calls it, on four inputs that make the call fail.
use Rattle.std.specs.Prelude.{◌≡◌, refl}
use Rattle.std.specs.Fmt.{digits}
use Rattle.cv_isa.specs.DecodeTable.{row_of}
use Rattle.cv_isa.specs.Uses.{registers}
use Rattle.cv_runs.specs.PatchedRun.{patched_from}
use Rattle.cv_runs.specs.PlainRun.{steps_from}
use Rattle.cv_runs.specs.PlainTurn.{turn_of}
use Rattle.cv_histories.specs.Report.{report}
use Rattle.cv_histories.specs.Serial.{serial}
use Rattle.cv_examples.specs.Calling.{calling_plan, calling_report}

pub calling_reports : report calling_plan (serial calling_plan) ≡ calling_report
unfolding turn_of row_of registers steps_from patched_from digits
calling_reports = refl
