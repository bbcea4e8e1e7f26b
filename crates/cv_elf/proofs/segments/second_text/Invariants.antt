use Rattle.std.proofs.Common.{◌≡◌, length}
use Rattle.cv_elf.proofs.Pairs.{texts_in}
use Rattle.cv_elf.proofs.segments.second_text.Given as goal

abbrev pub invariant-loop-left : goal.invariant-loop-left
invariant-loop-left l = texts_in l.left ≡ texts_in l.headers

abbrev pub decreases-loop-left : goal.decreases-loop-left
decreases-loop-left l = length l.left
