use Rattle.std.proofs.Common.{◌≡◌, rules}
use Rattle.cv_blocks.proofs.FromImage.{listed}
use Rattle.cv_blocks.proofs.listing.Listing.make.Goals as goal

pub invariant_of-result : goal.invariant_of-result
invariant_of-result c =
    let words : c.in_ok-words.words ≡ c.image.inside.words = search rules in
    let segments = c.image.inside.segments in
    (rw words (listed (record { text_base = c.image.inside.text_base; words = c.image.inside.words; segments = segments; entry = c.image.inside.entry }) c.image.invariant), search rules)
