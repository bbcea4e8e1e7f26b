use Rattle.std.proofs.Common.{◌≡◌, ℕ, take}
use Rattle.std.specs.List.{flat_map}
use Rattle.cv_runs.specs.Learned.{learned_at, seen_at}
use Rattle.cv_runs.specs.Text.{reads_at, window_registers}
use Rattle.cv_observe.proofs.learning.learned_of.Given as goal

abbrev pub invariant-loop-point : goal.invariant-loop-point
invariant-loop-point l =
    let image = l.map in
    l.list.items
    ≡ flat_map (λ (p : ℕ). learned_at p (reads_at image p) (window_registers image p) (seen_at l.seen p)) (take l.point-index l.point-items)
