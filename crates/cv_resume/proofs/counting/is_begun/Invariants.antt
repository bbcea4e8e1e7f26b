use Rattle.std.proofs.Common.{drop}
use Rattle.std.specs.Prelude.{◌≢◌, reverse}
use Rattle.std.specs.List.{AllByRecursion}
use Rattle.cv_base.specs.declared.entries.Entry.{Entry}
use Rattle.cv_histories.specs.Legal.{round_of}
use Rattle.cv_resume.proofs.counting.is_begun.Given as goal

abbrev pub invariant-loop-entry : goal.invariant-loop-entry
invariant-loop-entry l =
    AllByRecursion (λ (o : Entry). round_of l.plan o ≢ l.round) (drop l.entry-index l.history) → AllByRecursion (λ (o : Entry). round_of l.plan o ≢ l.round) (reverse l.history)
