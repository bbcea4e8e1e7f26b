use Rattle.std.proofs.Common.{◌≡◌, take}
use Rattle.cv_case.specs.Referred.{referred}
use Rattle.cv_case.proofs.opening.copies.Given as goal

abbrev pub invariant-loop-invariant : goal.invariant-loop-invariant
invariant-loop-invariant l = l.copies.items ≡ referred (take l.invariant-index l.invariants)
