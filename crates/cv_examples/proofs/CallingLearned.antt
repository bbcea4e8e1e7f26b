-- What is learned of the indirect call, in order.
use Rattle.std.specs.Prelude.{◌≡◌, refl}
use Rattle.std.specs.Fmt.{digits}
use Rattle.cv_isa.specs.DecodeTable.{row_of}
use Rattle.cv_isa.specs.Uses.{registers}
use Rattle.cv_runs.specs.PlainRun.{steps_from}
use Rattle.cv_runs.specs.PlainTurn.{turn_of}
use Rattle.cv_histories.specs.OtherTexts.{infer_text}
use Rattle.cv_examples.specs.Calling.{calling_plan}
use Rattle.cv_examples.specs.CallingLearned.{calling_learned}

pub calling_learns : infer_text calling_plan ≡ calling_learned
unfolding turn_of row_of registers steps_from digits
calling_learns = refl
