use Rattle.std.proofs.Common.{◌∙◌, arith}
use Rattle.cv_observe.proofs.LearnedFrom.{learned_end, learned_step}
use Rattle.cv_observe.specs.Learning.{learned_from}
use Rattle.cv_observe.proofs.lessons.learned_of_points.Goals as goal

pub loop-x-preserved : goal.loop-x-preserved
loop-x-preserved c =
    let text = c.args.map.now in
    let points = c.args.points.now in
    learned_step text points (learned_from text text.text_base points) c.loop-x.list.items c.learn_point.new.list.items c.loop-x.x c.point.result c.index-points-x.result c.loop-x-test.true c.loop-x.invariant c.point.ensures.address c.index-points-x.is c.in_ok-learn_point.ensures

pub returns : goal.returns
returns c =
    let text = c.args.map.now in
    let points = c.args.points.now in
    c.from_vec.ensures ∙ learned_end text points (learned_from text text.text_base points) c.loop-x.list.items c.loop-x.x (omega arith) c.loop-x.invariant
