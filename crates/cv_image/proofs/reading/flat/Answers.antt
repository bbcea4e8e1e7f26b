use Rattle.std.proofs.Common.{rules, ◌<◌, length}
use Rattle.cv_image.proofs.FlatImage.{IsImage-flat}
use Rattle.cv_image.proofs.reading.flat.Goals as goal

pub invariant_of-result : goal.invariant_of-result
invariant_of-result c =
    let bytes = c.args.bytes.now in
    let some : 0 < length bytes = search rules in
    rw (c.in_ok-words.ensures, c.in_ok-segments.ensures) (IsImage-flat bytes some c.if-bytes-ne0.false c.if-bytes-gt-LONGEST.false)
