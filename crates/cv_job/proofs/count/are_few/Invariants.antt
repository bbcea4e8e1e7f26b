use Rattle.std.proofs.Common.{◌≡◌, ◌+◌, take}
use Rattle.cv_base.specs.PlanOf.{runs_of}
use Rattle.cv_job.proofs.count.are_few.Given as goal

abbrev pub invariant-loop-round : goal.invariant-loop-round
invariant-loop-round l = l.left + runs_of (take l.round-index l.rounds) ≡ 1024
