-- What drill writes.
use Rattle.std.specs.Prelude.{refl}
use Rattle.std.specs.Fmt.{digits}
use Rattle.cv_isa.specs.DecodeTable.{row_of}
use Rattle.cv_isa.specs.Uses.{registers}
use Rattle.cv_runs.specs.PatchedRun.{patched_from}
use Rattle.cv_runs.specs.PlainRun.{steps_from}
use Rattle.cv_runs.specs.PlainTurn.{turn_of}
use Rattle.cv_examples.specs.Drills.{DrillGood, DrillBad, DrillThree}

pub drill_good : DrillGood
unfolding turn_of row_of registers steps_from patched_from digits
drill_good = refl

pub drill_bad : DrillBad
unfolding turn_of row_of registers steps_from patched_from digits
drill_bad = refl

pub drill_three : DrillThree
unfolding turn_of row_of registers steps_from patched_from digits
drill_three = refl
