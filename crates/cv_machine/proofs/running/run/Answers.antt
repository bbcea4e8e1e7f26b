use Rattle.std.proofs.Common.{◌∙◌, arith}
use Rattle.cv_machine.proofs.Leading.{further}
use Rattle.cv_machine.proofs.Remains.{more, stopped, over}
use Rattle.cv_machine.proofs.running.run.Goals as goal

pub returns-then-done-budget : goal.returns-then-done-budget
returns-then-done-budget c =
    let same = c.turns.invariant.image in
    let led = further _ _ _ _ _ _ _ (omega (arith, c.quick_turns-more.ensures.most)) (rw same at c.quick_turns-more.ensures.turns) c.turns.invariant.remains in
    let whole = over _ _ _ _ _ (omega (arith, c.quick_turns-more.ensures.most)) led in
    record { end = whole.ends; turns = whole.turns; state = whole.leaves; image = c.quick_turns-more.ensures.image ∙ same; point = c.quick_turns-more.ensures.point }

pub turns-preserved : goal.turns-preserved
turns-preserved c =
    let same = c.quick_turns-more.ensures.image ∙ c.turns.invariant.image in
    let led = further _ _ _ _ _ _ _ (omega (arith, c.quick_turns-more.ensures.most)) (rw c.turns.invariant.image at c.quick_turns-more.ensures.turns) c.turns.invariant.remains in
    record {
      image = c.in-On.ensures.image ∙ same;
      point = c.in-On.ensures.point;
      within = omega arith;
      remains = more _ _ _ _ _ _ c.in-On.transfer (omega arith) (rw same at c.in-On.ensures.answer) (rw same at c.in-On.ensures.state) led;
    }

pub returns-in-Over : goal.returns-in-Over
returns-in-Over c =
    let same = c.quick_turns-more.ensures.image ∙ c.turns.invariant.image in
    let led = further _ _ _ _ _ _ _ (omega (arith, c.quick_turns-more.ensures.most)) (rw c.turns.invariant.image at c.quick_turns-more.ensures.turns) c.turns.invariant.remains in
    let whole = stopped _ _ _ _ _ _ _ (omega arith) (rw same at c.in-Over.ensures.answer) (rw same at c.in-Over.ensures.state) led in
    record { end = whole.ends; turns = whole.turns; state = whole.leaves; image = c.in-Over.ensures.image ∙ same; point = c.in-Over.ensures.point }

pub returns : goal.returns
returns c =
    let whole = over _ _ _ _ _ (omega arith) c.turns.invariant.remains in
    record { end = whole.ends; turns = whole.turns; state = whole.leaves; image = c.turns.invariant.image; point = c.turns.invariant.point }
