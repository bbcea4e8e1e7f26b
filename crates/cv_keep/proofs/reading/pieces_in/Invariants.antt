use Rattle.std.proofs.Common.{◌≡◌, ◌+◌, ◌++◌, length}
use Rattle.cv_keep.specs.Pieces.{pieces, end_of}
use Rattle.cv_keep.proofs.reading.pieces_in.Given as goal

abbrev pub invariant-loop-piece : goal.invariant-loop-piece
invariant-loop-piece l = record {
  told : l.found.items ++ pieces l.rest ≡ pieces l.image;
  place : end_of l.found.items + length l.rest ≡ length l.image;
}

abbrev pub decreases-loop-piece : goal.decreases-loop-piece
decreases-loop-piece l = length l.rest
