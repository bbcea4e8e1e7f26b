use Rattle.std.proofs.Common.{◌≡◌}
use Rattle.cv_desk.specs.Openings.{IsUpTo}
use Rattle.cv_worker.proofs.all_rounds.community.Given as goal

abbrev pub invariant-loop-round : goal.invariant-loop-round
invariant-loop-round g l = (l.book.plan ≡ l.fn.plan) × IsUpTo l.book.plan l.round l.book.past
