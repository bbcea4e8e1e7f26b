-- Worked plain runs.
use Rattle.std.specs.Prelude.{refl}
use Rattle.std.specs.Fmt.{digits}
use Rattle.cv_isa.specs.DecodeTable.{row_of}
use Rattle.cv_isa.specs.Uses.{registers}
use Rattle.cv_runs.specs.PatchedRun.{patched_from}
use Rattle.cv_runs.specs.PlainRun.{steps_from}
use Rattle.cv_runs.specs.PlainTurn.{turn_of}
use Rattle.cv_examples.specs.Runs.{Exits, CallsFirst, ClearsBitZero, CallsNoPoint, Misaligned, Unreadable, Unwritable, IntoCode, Breaks, Illegal, InsideBlock, PastBlock, OverBlockEnd, AfterFree, ReadsPastBlock, DamagedReturn, NoFrame, OutOfBudget, Writes}

pub exits : Exits
unfolding turn_of row_of registers steps_from patched_from digits
exits = refl

pub calls_first : CallsFirst
unfolding turn_of row_of registers steps_from patched_from digits
calls_first = refl

pub clears_bit_zero : ClearsBitZero
unfolding turn_of row_of registers steps_from patched_from digits
clears_bit_zero = refl

pub calls_no_point : CallsNoPoint
unfolding turn_of row_of registers steps_from patched_from digits
calls_no_point = refl

pub misaligned : Misaligned
unfolding turn_of row_of registers steps_from patched_from digits
misaligned = refl

pub unreadable : Unreadable
unfolding turn_of row_of registers steps_from patched_from digits
unreadable = refl

pub unwritable : Unwritable
unfolding turn_of row_of registers steps_from patched_from digits
unwritable = refl

pub into_code : IntoCode
unfolding turn_of row_of registers steps_from patched_from digits
into_code = refl

pub breaks : Breaks
unfolding turn_of row_of registers steps_from patched_from digits
breaks = refl

pub illegal : Illegal
unfolding turn_of row_of registers steps_from patched_from digits
illegal = refl

pub inside_block : InsideBlock
unfolding turn_of row_of registers steps_from patched_from digits
inside_block = refl

pub past_block : PastBlock
unfolding turn_of row_of registers steps_from patched_from digits
past_block = refl

pub over_block_end : OverBlockEnd
unfolding turn_of row_of registers steps_from patched_from digits
over_block_end = refl

pub after_free : AfterFree
unfolding turn_of row_of registers steps_from patched_from digits
after_free = refl

pub reads_past_block : ReadsPastBlock
unfolding turn_of row_of registers steps_from patched_from digits
reads_past_block = refl

pub damaged_return : DamagedReturn
unfolding turn_of row_of registers steps_from patched_from digits
damaged_return = refl

pub no_frame : NoFrame
unfolding turn_of row_of registers steps_from patched_from digits
no_frame = refl

pub out_of_budget : OutOfBudget
unfolding turn_of row_of registers steps_from patched_from digits
out_of_budget = refl

pub writes : Writes
unfolding turn_of row_of registers steps_from patched_from digits
writes = refl
