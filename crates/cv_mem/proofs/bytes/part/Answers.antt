use Rattle.std.proofs.Common.{arith}
use Rattle.std.proofs.lemmas.Grind.{common_steps}
use Rattle.cv_mem.proofs.BytesAt.{bytes_at-memory_of}
use Rattle.cv_mem.proofs.bytes.part.Goals as goal

pub returns : goal.returns
returns c =
    let e = bytes_at-memory_of c.args.bytes.now c.args.at c.args.len c.requires in
    grind (arith, common_steps)
