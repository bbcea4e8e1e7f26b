use Rattle.std.proofs.Common.{arith}
use Rattle.cv_mem.proofs.SegmentsPlaced.{past_next}
use Rattle.cv_mem.proofs.segments.end_of.Goals as goal

pub loop-segment-preserved : goal.loop-segment-preserved
loop-segment-preserved c = λ a h.
    past_next c.args.segments.now c.loop-segment.segment-index c.segment-item.result a c.loop-segment-test.true c.segment-item.is (c.loop-segment.invariant a (omega arith)) (omega arith)
