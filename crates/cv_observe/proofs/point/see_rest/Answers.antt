use Rattle.std.proofs.Common.{arith}
use Rattle.cv_observe.proofs.AtPoints.{seen_from_more}
use Rattle.cv_observe.proofs.point.see_rest.Goals as goal

pub loop-x-preserved : goal.loop-x-preserved
loop-x-preserved c =
    seen_from_more c.args.regs.now c.args.list.now c.args.from c.loop-x.x c.loop-x.list c.index-list-x.result c.see.new.self (omega arith) (omega arith) c.loop-x.invariant
    (record { number = c.see.ensures.number; kept = c.see.ensures.kept })
