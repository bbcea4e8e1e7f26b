use Rattle.std.proofs.Common.{◌≡◌, ◌∙◌, [], ap, subst, length, length-append, ◌∷◌, arith}
use Rattle.cv_blocks.specs.TextMap.{is_in_window}
use Rattle.cv_observe.proofs.EachPlace.{each_pushed}
use Rattle.cv_observe.specs.AtPoint.{IsPoint, numbers_of}
use Rattle.cv_observe.specs.StandsFor.{point_at}
use Rattle.cv_observe.specs.declared.point.Point.{Point}
use Rattle.cv_runs.specs.Text.{reads_at}
use Rattle.cv_observe.proofs.table.unseen_points.Goals as goal

pub loop-x-preserved : goal.loop-x-preserved
loop-x-preserved c =
    let text = c.args.map.now in
    let x = c.loop-x.x in
    let list = c.loop-x.points.items in
    let y : Point = c.in_ok-point.point in
    let long = c.loop-x.invariant.words in
    let at = c.point.ensures.address in
    let pushed = c.in_ok-push.ensures.items in record {
      words = let l = length-append list (y ∷ []) in ap length pushed ∙ (omega arith);
      reads = each_pushed (λ k (p : Point). numbers_of p.registers.items ≡ reads_at text (point_at text k)) x list c.push.new.self.items y long pushed c.loop-x.invariant.reads (c.in_ok-point.ensures.numbers ∙ ap (reads_at text) at);
      kept = each_pushed (λ k p. IsPoint (is_in_window text (point_at text k)) p []) x list c.push.new.self.items y long pushed c.loop-x.invariant.kept (subst (λ p. IsPoint (is_in_window text p) y []) at c.in_ok-point.ensures.kept);
    }
