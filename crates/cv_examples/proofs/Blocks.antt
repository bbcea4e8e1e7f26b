-- Where blocks begin.
use Rattle.std.specs.Prelude.{refl}
use Rattle.std.specs.Fmt.{digits}
use Rattle.cv_isa.specs.DecodeTable.{row_of}
use Rattle.cv_isa.specs.Uses.{registers}
use Rattle.cv_runs.specs.PatchedRun.{patched_from}
use Rattle.cv_runs.specs.PlainRun.{steps_from}
use Rattle.cv_runs.specs.PlainTurn.{turn_of}
use Rattle.cv_examples.specs.Blocks.{LoopEntries, StraightEntries, LongEntries}

pub loop_entries : LoopEntries
unfolding turn_of row_of registers steps_from patched_from digits
loop_entries = refl

pub straight_entries : StraightEntries
unfolding turn_of row_of registers steps_from patched_from digits
straight_entries = refl

pub long_entries : LongEntries
unfolding turn_of row_of registers steps_from patched_from digits
long_entries = refl
