use Rattle.std.proofs.Common.{◌≡◌, drop}
use Rattle.cv_histories.specs.Repairs.{offset_at}
use Rattle.cv_repair.proofs.actions.offset_at.Given as goal

abbrev pub invariant-loop-candidate : goal.invariant-loop-candidate
invariant-loop-candidate l = offset_at l.point (drop l.candidate-index l.candidates) ≡ offset_at l.point l.candidates
