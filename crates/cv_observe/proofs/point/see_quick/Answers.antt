use Rattle.std.proofs.Common.{arith}
use Rattle.cv_observe.specs.AtPoint.{Sees}
use Rattle.cv_observe.proofs.EachPlace.{each_more}
use Rattle.cv_observe.proofs.point.see_quick.Goals as goal

pub loop-x-preserved : goal.loop-x-preserved
loop-x-preserved c =
    each_more (λ x old new. Sees old new c.args.regs.now) c.args.list.now c.loop-x.x c.loop-x.list c.index-list-x.result c.see_quick.new.self (omega arith) c.loop-x.invariant
    (c.see_quick.ensures.seen c.if-not-see_quick.false)
