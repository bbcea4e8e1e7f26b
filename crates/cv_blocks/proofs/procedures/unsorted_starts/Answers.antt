use Rattle.std.proofs.Common.{◌+◌, ◌*◌, rules}
use Rattle.cv_base.specs.Picture.{is_point}
use Rattle.cv_runs.specs.Text.{call_target, inst_at}
use Rattle.cv_blocks.proofs.Starts.{starts_more}
use Rattle.cv_blocks.proofs.procedures.unsorted_starts.Goals as goal

pub loop-k-preserved : goal.loop-k-preserved
loop-k-preserved c =
    let image = c.args.listing.now in
    starts_more (is_point image) (λ p. call_target p (inst_at image p)) (λ k. image.text_base + 4 * k) c.loop-k.k image.text_base image.entry c.loop-k.starts.items _ c.loop-k.invariant (search rules)
