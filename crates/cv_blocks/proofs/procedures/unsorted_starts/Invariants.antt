use Rattle.std.proofs.Common.{◌≡◌, ◌+◌, ◌*◌, ◌∷◌, map}
use Rattle.std.specs.List.{filter, filter_map, range_with_len}
use Rattle.cv_base.specs.Picture.{is_point}
use Rattle.cv_runs.specs.Text.{call_target, inst_at}
use Rattle.cv_blocks.proofs.procedures.unsorted_starts.Given as goal

abbrev pub invariant-loop-k : goal.invariant-loop-k
invariant-loop-k l =
    let image = l.listing in
    l.starts.items ≡ image.text_base ∷ image.entry ∷ filter (is_point image) (filter_map (λ p. call_target p (inst_at image p)) (map (λ k. image.text_base + 4 * k) (range_with_len 0 l.k)))
