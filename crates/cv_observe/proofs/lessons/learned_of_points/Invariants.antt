use Rattle.std.proofs.Common.{◌≡◌, ◌++◌, drop}
use Rattle.cv_observe.specs.StandsFor.{point_at}
use Rattle.cv_observe.specs.Learning.{learned_from}
use Rattle.cv_observe.proofs.lessons.learned_of_points.Given as goal

abbrev pub invariant-loop-x : goal.invariant-loop-x
invariant-loop-x l = learned_from l.map l.map.text_base l.points ≡ l.list.items ++ learned_from l.map (point_at l.map l.x) (drop l.x l.points)
