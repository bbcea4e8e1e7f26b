use Rattle.std.proofs.Common.{◌≡◌, ◌++◌, drop}
use Rattle.cv_manager.specs.Tables.{changes_from}
use Rattle.cv_manager.proofs.tables.changes_with.Given as goal

abbrev pub invariant-loop-case : goal.invariant-loop-case
invariant-loop-case l =
    l.list.items ++ changes_from l.entry l.case (drop l.case l.before) (drop l.case l.after) ≡ l.initial.list.items ++ changes_from l.entry 0 l.before l.after
