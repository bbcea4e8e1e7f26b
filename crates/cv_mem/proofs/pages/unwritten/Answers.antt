use Rattle.std.proofs.Common.{◌/◌, false, arith}
use Rattle.std.proofs.lemmas.List.{length-replicate}
use Rattle.cv_mem.proofs.Within.{memory_size-is}
use Rattle.cv_mem.proofs.pages.unwritten.Goals as goal

pub returns-clause-length : goal.returns-clause-length
returns-clause-length c =
    rw c.in_ok-marks.ensures (omega (arith, memory_size-is, length-replicate (c.size-count.result / 4096) false))
