use Rattle.std.proofs.Common.{◌≡◌, ℕ, [], false, subst, get_or, arith}
use Rattle.cv_blocks.specs.TextMap.{is_in_window}
use Rattle.cv_observe.proofs.EachPlace.{each_more}
use Rattle.cv_observe.proofs.OneTable.{Cleared, stands_cleared, table_cleared}
use Rattle.cv_observe.specs.AtPoint.{IsPoint}
use Rattle.cv_observe.specs.declared.point.Point.{Point}
use Rattle.cv_observe.proofs.table.clear_each.Goals as goal

pub loop-x-preserved : goal.loop-x-preserved
loop-x-preserved c =
    let text = c.args.map.now in
    let old : Point = get_or c.loop-x.points c.loop-x.x c.index-points-x.result in
    let new : Point = c.clear_at.new.point in
    let words = c.requires.words in
    let same = c.loop-x.invariant.length in
    each_more (Cleared text) c.args.points.now c.loop-x.x c.loop-x.points c.index-points-x.result new (omega arith) c.loop-x.invariant (
      c.clear_at.ensures.numbers,
      subst (λ (p : ℕ). (old.seen ≡ false → IsPoint (is_in_window text p) old []) → IsPoint (is_in_window text p) new []) c.point.ensures.address c.clear_at.ensures.kept,
    )

pub returns-clause-table : goal.returns-clause-table
returns-clause-table c =
    table_cleared c.args.map.now c.args.points.now c.requires c.loop-x.x c.loop-x.points (omega arith) c.loop-x.invariant

pub returns-clause-empty : goal.returns-clause-empty
returns-clause-empty c =
    stands_cleared c.args.map.now c.args.points.now c.requires c.loop-x.x c.loop-x.points (omega arith) c.loop-x.invariant
