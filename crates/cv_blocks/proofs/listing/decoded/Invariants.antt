use Rattle.std.proofs.Common.{◌≡◌, map, take}
use Rattle.cv_isa.specs.DecodeTable.{meaning_of}
use Rattle.cv_blocks.proofs.listing.decoded.Given as goal

abbrev pub invariant-loop-word : goal.invariant-loop-word
invariant-loop-word l = l.insts.items ≡ map meaning_of (take l.word-index l.words)
