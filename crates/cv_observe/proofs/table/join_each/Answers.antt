use Rattle.std.proofs.Common.{◌<◌, ◌∙◌, sym, subst, length, arith}
use Rattle.std.proofs.lemmas.List.{get_or_default}
use Rattle.cv_observe.proofs.EachPlace.{each_more}
use Rattle.cv_observe.proofs.OneTable.{Joined, stands_joined}
use Rattle.cv_observe.specs.AtPoint.{IsPoint}
use Rattle.cv_observe.specs.declared.point.Point.{Point}
use Rattle.cv_observe.proofs.table.join_each.Goals as goal

pub loop-x-preserved : goal.loop-x-preserved
loop-x-preserved c =
    let others = c.args.others.now in
    let x = c.loop-x.x in
    let o : Point = c.index-others-x.result in
    let words = c.requires.table.words in
    let as_many = c.requires.other.words in
    let same = c.loop-x.invariant.length in
    let inside : x < length others = omega arith in
    each_more (Joined others) c.args.points.now x c.loop-x.points c.index-points-x.result c.join_seen.new.self (omega arith) c.loop-x.invariant (
      c.join_seen.ensures.numbers,
      c.join_seen.ensures.unseen,
      λ d window xs ys a b. c.join_seen.ensures.kept window xs ys a (subst (λ k. IsPoint window k ys) (sym (c.index-others-x.is ∙ get_or_default others x o d inside)) b),
    )

pub returns-clause-joined : goal.returns-clause-joined
returns-clause-joined c =
    stands_joined c.args.map.now c.args.points.now c.requires.table c.args.others.now c.requires.other c.loop-x.x c.loop-x.points (omega arith) c.loop-x.invariant
