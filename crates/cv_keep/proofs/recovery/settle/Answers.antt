use Rattle.cv_keep.proofs.Images.{broken_by_byte, broken_by_end}
use Rattle.cv_keep.proofs.recovery.settle.Goals as goal
use Rattle.cv_keep.proofs.recovery.settle.Goals.{else-end-bytes-via-then-end-bytes+else-bytes-end-eq0, else-end-bytes-via-else-end-bytes}

pub shut-requires-clause-broken : goal.shut-requires-clause-broken
shut-requires-clause-broken g c tells =
    let same = (c.requires.content tells).0 in
    elim c.else-end-bytes.branch [
      | else-end-bytes-via-then-end-bytes+else-bytes-end-eq0 w ↦ broken_by_byte _ _ c.args.end same w.if-bytes-end-eq0.false
      | else-end-bytes-via-else-end-bytes w ↦ broken_by_end _ _ c.args.end same c.requires.place w.if-end-bytes.false
    ]
