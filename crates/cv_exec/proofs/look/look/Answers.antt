use Rattle.std.proofs.Common.{◌∙◌, arith}
use Rattle.std.proofs.lemmas.Bool.Decides.{nat_tests}
use Rattle.cv_exec.proofs.Looking.{looks_all, looks_on, ok_holds}
use Rattle.cv_exec.proofs.look.look.Goals as goal

pub turns-preserved : goal.turns-preserved
turns-preserved c =
    let image = c.turns.invariant.image in
    let turn = c.one_turn-left.ensures in
    record {
      image = turn.image ∙ image;
      text = c.see.ensures.text ∙ c.turns.invariant.text;
      point = turn.point;
      looks = rw (turn.left, turn.state, image)
          (looks_on c.args.machine.now.image _ c.turns.left _ c.turns.summary c.see.new.summary (grind (arith, nat_tests, c.turns-test.true)) c.turns.invariant.looks
          (ok_holds c.see.result c.see.ensures.always (rw c.core.ensures at c.see.ensures.ok)));
    }

pub returns-clause-seen : goal.returns-clause-seen
returns-clause-seen c = looks_all _ _ c.turns.left _ c.turns.summary (grind (arith, nat_tests, c.turns-test.false)) c.turns.invariant.looks
