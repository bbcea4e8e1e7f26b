use Rattle.std.proofs.Common.{◌+◌, ◌*◌, ◌<◌, ◌^◌, arith}
use Rattle.cv_journal.proofs.HexLaw.{room_for_digit}
use Rattle.cv_journal.proofs.numbers.hex_number.Goals as goal

pub overflow_add-number : goal.overflow_add-number
overflow_add-number c =
    let room : 16 * c.loop-byte.number + c.in_ok-digit.digit < 2 ^ 32
    = room_for_digit c.loop-byte.byte-index c.loop-byte.number c.in_ok-digit.digit (omega arith) c.loop-byte.invariant.small c.in_ok-digit.ensures.small in
    omega arith
