use Rattle.cv_base.specs.Registers.{register}
use Rattle.cv_runs.specs.Invariants.{signed_le}
use Rattle.cv_observe.proofs.OneOut.{Narrowed}
use Rattle.cv_observe.proofs.pairs.are_at_least.Given as goal

abbrev pub invariant-loop-b : goal.invariant-loop-b
invariant-loop-b l = Narrowed l.fn.set (λ b. signed_le l.value (register l.regs b)) l.left l.fn.set

abbrev pub decreases-loop-b : goal.decreases-loop-b
decreases-loop-b l = l.left.bits
