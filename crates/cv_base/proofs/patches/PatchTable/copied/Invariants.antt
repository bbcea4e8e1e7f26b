use Rattle.std.proofs.Common.{◌≡◌, take}
use Rattle.cv_base.proofs.patches.PatchTable.copied.Given as goal

abbrev pub invariant-loop-patch : goal.invariant-loop-patch
invariant-loop-patch l = l.copies.items ≡ take l.patch-index l.self
