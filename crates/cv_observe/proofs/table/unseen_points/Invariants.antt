use Rattle.std.proofs.Common.{◌≡◌, ℕ, ◌<◌, [], get_or, length}
use Rattle.cv_blocks.specs.TextMap.{is_in_window}
use Rattle.cv_observe.specs.AtPoint.{IsPoint, numbers_of}
use Rattle.cv_observe.specs.StandsFor.{point_at}
use Rattle.cv_observe.specs.declared.point.Point.{Point}
use Rattle.cv_runs.specs.Text.{reads_at}
use Rattle.cv_observe.proofs.table.unseen_points.Given as goal

abbrev pub invariant-loop-x : goal.invariant-loop-x
invariant-loop-x l = record {
  words : length l.points.items ≡ l.x;
  reads : (k : ℕ) (d : Point) → k < l.x → numbers_of (get_or l.points.items k d).registers.items ≡ reads_at l.map (point_at l.map k);
  kept : (k : ℕ) (d : Point) → k < l.x → IsPoint (is_in_window l.map (point_at l.map k)) (get_or l.points.items k d) [];
}
