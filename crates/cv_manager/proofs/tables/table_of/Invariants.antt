use Rattle.std.proofs.Common.{◌≡◌, ◌++◌, drop}
use Rattle.std.specs.List.{AllByRecursion}
use Rattle.cv_manager.specs.Tables.{HasFew, opened_list, patches_from}
use Rattle.cv_manager.proofs.tables.table_of.Given as goal

abbrev pub invariant-loop-number : goal.invariant-loop-number
invariant-loop-number l = record {
  few : AllByRecursion HasFew (drop l.number l.cases ++ opened_list l.opened);
  same : l.list.items ++ patches_from l.number (drop l.number l.cases ++ opened_list l.opened) (drop l.number l.progress) ≡ patches_from 0 (l.cases ++ opened_list l.opened) l.progress;
}
