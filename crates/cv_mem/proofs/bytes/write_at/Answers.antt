use Rattle.std.proofs.Common.{◌+◌, ◌-◌, length, arith}
use Rattle.cv_mem.proofs.BytesAt.{memory_of-put_mid}
use Rattle.cv_mem.proofs.bytes.write_at.Goals as goal

pub returns : goal.returns
returns c =
    rw c.copy_from_slice.ensures.after (memory_of-put_mid c.args.bytes.now c.args.written.now c.args.at (c.args.at + length c.args.written.now - c.args.at) (omega arith) (omega arith))
