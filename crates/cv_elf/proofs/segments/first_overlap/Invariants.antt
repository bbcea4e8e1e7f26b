use Rattle.std.proofs.Common.{◌≡◌, length}
use Rattle.cv_elf.specs.Tests.{pairs_of}
use Rattle.cv_elf.proofs.Pairs.{overlap_in}
use Rattle.cv_elf.proofs.segments.first_overlap.Given as goal

abbrev pub invariant-loop-left : goal.invariant-loop-left
invariant-loop-left l = overlap_in (pairs_of l.left) ≡ overlap_in (pairs_of l.headers)

abbrev pub decreases-loop-left : goal.decreases-loop-left
decreases-loop-left l = length l.left
