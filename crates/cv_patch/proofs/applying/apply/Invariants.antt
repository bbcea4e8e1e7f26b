use Rattle.std.proofs.Common.{drop}
use Rattle.cv_base.specs.Points.{is_point_in}
use Rattle.cv_patch.proofs.InOrder.{Comes}
use Rattle.cv_patch.proofs.applying.apply.Given as goal

abbrev pub invariant-loop-patch : goal.invariant-loop-patch
invariant-loop-patch l =
    Comes (is_point_in l.text.base l.text.count) l.pc l.table l.fn.core l.fn.tally l.fn.fired
    (drop l.patch-index l.patch-items) l.core l.tally l.fired
