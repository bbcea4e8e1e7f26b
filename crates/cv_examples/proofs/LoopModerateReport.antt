-- A candidate that fails more than once a run.
use Rattle.std.specs.Prelude.{◌≡◌, refl}
use Rattle.std.specs.Fmt.{digits}
use Rattle.cv_isa.specs.DecodeTable.{row_of}
use Rattle.cv_isa.specs.Uses.{registers}
use Rattle.cv_runs.specs.PatchedRun.{patched_from}
use Rattle.cv_runs.specs.PlainRun.{steps_from}
use Rattle.cv_runs.specs.PlainTurn.{turn_of}
use Rattle.cv_histories.specs.Report.{report}
use Rattle.cv_histories.specs.Serial.{serial}
use Rattle.cv_examples.specs.LoopModerate.{loop_moderate_plan, loop_moderate_report}

pub loop_moderate_reports : report loop_moderate_plan (serial loop_moderate_plan) ≡ loop_moderate_report
unfolding turn_of row_of registers steps_from patched_from digits
loop_moderate_reports = refl
