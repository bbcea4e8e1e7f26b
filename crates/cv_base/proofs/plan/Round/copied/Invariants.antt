use Rattle.std.proofs.Common.{◌≡◌, take}
use Rattle.cv_base.proofs.plan.Round.copied.Given as goal

abbrev pub invariant-loop-input : goal.invariant-loop-input
invariant-loop-input l = l.copies.items ≡ take l.input-index l.self.inputs
