-- Four and five values at a point.
use Rattle.std.specs.Prelude.{refl}
use Rattle.std.specs.Fmt.{digits}
use Rattle.cv_isa.specs.DecodeTable.{row_of}
use Rattle.cv_isa.specs.Uses.{registers}
use Rattle.cv_runs.specs.PatchedRun.{patched_from}
use Rattle.cv_runs.specs.PlainRun.{steps_from}
use Rattle.cv_runs.specs.PlainTurn.{turn_of}
use Rattle.cv_examples.specs.Values.{FourValues, FiveValues}

pub four_values : FourValues
unfolding turn_of row_of registers steps_from patched_from digits
four_values = refl

pub five_values : FiveValues
unfolding turn_of row_of registers steps_from patched_from digits
five_values = refl
