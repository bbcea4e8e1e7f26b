use Rattle.cv_blocks.specs.TextMap.{AreWindows}
use Rattle.cv_blocks.proofs.windows.windows_of.Given as goal

abbrev pub invariant-loop-k : goal.invariant-loop-k
invariant-loop-k l = AreWindows l.listing l.k l.sets.items
