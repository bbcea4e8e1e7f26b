use Rattle.std.proofs.Common.{◌≡◌, take}
use Rattle.std.specs.Prelude.{reverse}
use Rattle.cv_audit.specs.Clauses.{floor_of_worker}
use Rattle.cv_audit.proofs.following.floor_of_worker.Given as goal

abbrev pub invariant-loop-k : goal.invariant-loop-k
invariant-loop-k l = l.floor ≡ floor_of_worker l.plan (reverse (take l.k l.history)) l.entry
