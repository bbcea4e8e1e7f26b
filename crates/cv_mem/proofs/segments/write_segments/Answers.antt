use Rattle.std.proofs.Common.{◌-◌, arith}
use Rattle.cv_mem.specs.Memory.{memory_of}
use Rattle.cv_mem.proofs.SegmentsPlaced.{segment_written}
use Rattle.cv_mem.proofs.segments.write_segments.Goals as goal

pub segments-preserved : goal.segments-preserved
segments-preserved c = record {
  within = omega arith;
  written =
      segment_written c.args.segments.now (c.segments.left - 1) c.segments.left c.index-segments-left.result (memory_of c.segments.bytes) (memory_of c.write_at.new.bytes) c.as_slice.result.now c.requires.placed (omega arith) c.segments.invariant.within c.index-segments-left.is c.as_slice.ensures c.segments.invariant.written c.write_at.ensures;
}
