use Rattle.std.proofs.Common.{drop}
use Rattle.std.specs.Prelude.{◌≢◌, reverse}
use Rattle.std.specs.List.{AllByRecursion}
use Rattle.cv_base.specs.declared.entries.Entry.{Entry}
use Rattle.cv_audit.proofs.following.has_run.Given as goal

abbrev pub invariant-loop-earlier : goal.invariant-loop-earlier
invariant-loop-earlier l =
    AllByRecursion (λ (o : Entry). o.run ≢ l.run) (drop l.earlier-index l.history) → AllByRecursion (λ (o : Entry). o.run ≢ l.run) (reverse l.history)
