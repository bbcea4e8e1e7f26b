use Rattle.std.proofs.Common.{arith, ◌∙◌}
use Rattle.cv_replay.specs.Standing.{plan_of}
use Rattle.cv_replay.proofs.copies.Copies.advance.Goals as goal

pub loop-alloc-preserved : goal.loop-alloc-preserved
loop-alloc-preserved c =
    let now = c.loop-alloc.invariant in
    let told = c.in_ok-forward.ensures in
    let turn = told.turn in
    let here = c.turn.ensures in
    let below = c.loop-alloc-test.true in
    record {
      plan = told.plan ∙ now.plan;
      at = told.at;
      turn = omega (arith, turn, here, below);
      copies = c.leave.ensures (plan_of c.args.walk.now) c.args.script.now now.copies (told.plan ∙ now.plan) told.at;
    }
