use Rattle.std.proofs.Common.{drop}
use Rattle.std.specs.Prelude.{reverse}
use Rattle.cv_audit.specs.Clauses.{DoRunsRise}
use Rattle.cv_audit.proofs.following.do_runs_rise.Given as goal

abbrev pub invariant-loop-earlier : goal.invariant-loop-earlier
invariant-loop-earlier l = DoRunsRise l.plan (drop l.earlier-index l.history) l.entry → DoRunsRise l.plan (reverse l.history) l.entry
