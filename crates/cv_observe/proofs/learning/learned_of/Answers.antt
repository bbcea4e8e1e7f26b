use Rattle.std.proofs.Common.{◌≡◌, ℕ, map, true, arith, rules}
use Rattle.std.specs.List.{All}
use Rattle.cv_base.specs.declared.entries.Observation.{Observation}
use Rattle.cv_base.specs.Picture.{is_point}
use Rattle.cv_runs.specs.Learned.{distinct}
use Rattle.cv_observe.proofs.Distinct.{points_pass}
use Rattle.cv_observe.proofs.learning.learned_of.Goals as goal

pub learn_point-requires : goal.learn_point-requires
learn_point-requires c =
    let all = points_pass (is_point c.args.map.now) c.args.seen.now c.requires in
    let same : c.as_slice-point-items.result.now ≡ distinct (map (λ (o : Observation). o.point) c.args.seen.now) = search rules in
    let each : All (λ (p : ℕ). is_point c.args.map.now p ≡ true) c.as_slice-point-items.result.now = rw same all in
    each c.loop-point.point-index 0 (omega arith)
