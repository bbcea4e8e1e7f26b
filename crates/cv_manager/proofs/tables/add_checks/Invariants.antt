use Rattle.std.proofs.Common.{◌≡◌, ◌++◌, drop}
use Rattle.cv_histories.specs.Versions.{checks_from}
use Rattle.cv_manager.proofs.tables.add_checks.Given as goal

abbrev pub invariant-loop-index : goal.invariant-loop-index
invariant-loop-index l =
    l.list.items ++ checks_from l.number l.index (drop l.index l.candidates) ≡ l.initial.list.items ++ checks_from l.number 0 l.candidates
