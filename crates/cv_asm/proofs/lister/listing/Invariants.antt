use Rattle.std.proofs.Common.{◌≡◌, ◌++◌, drop}
use Rattle.std.specs.Prelude.{string_bytes}
use Rattle.cv_asm.specs.Listing.{listing_of}
use Rattle.cv_asm.proofs.lister.listing.Given as goal

abbrev pub invariant-loop-word : goal.invariant-loop-word
invariant-loop-word l = string_bytes l.text ++ listing_of (drop l.word-index l.words) ≡ listing_of l.words
