use Rattle.cv_mem.specs.Memory.{start_memory}
use Rattle.cv_mem.proofs.SegmentsPlaced.{memory_of-take}
use Rattle.cv_mem.proofs.segments.start_bytes.Goals as goal

pub returns : goal.returns
returns c =
    rw c.in_ok-start.ensures.items (memory_of-take c.args.bytes.now (start_memory c.args.segments.now) c.end_of.result c.min-end.result c.requires c.end_of.ensures c.min-end.ensures)
