use Rattle.std.proofs.Common.{arith}
use Rattle.cv_edge.proofs.Writing.{appends_more, taken_within}
use Rattle.cv_edge.proofs.sink.write_all.Goals as goal

pub loop-done-preserved : goal.loop-done-preserved
loop-done-preserved g c =
    let text = c.args.text.now in
    let done = c.loop-done.done in
    record {
      within = taken_within text done _ _ c.loop-done.invariant.within c.in_ok-taken.ensures.within.1;
      appended = appends_more _ _ _ text done _ _ c.in_ok-taken.ensures.within.1 c.loop-done.invariant.appended c.in_ok-taken.ensures.taken;
      later = omega (arith, c.loop-done.invariant.later, c.in_ok-taken.ensures.cause.later);
    }
