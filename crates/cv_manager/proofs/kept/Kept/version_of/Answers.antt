use Rattle.std.proofs.Common.{◌++◌, ◌∙◌, List, length, Some, ap, sym}
use Rattle.cv_base.specs.declared.cases.Case.{Case}
use Rattle.cv_base.specs.Patches.{is_table}
use Rattle.cv_manager.specs.Kept.{ledger_of}
use Rattle.cv_manager.specs.Tables.{IsCase, opened_list, patches_from}
use Rattle.cv_manager.proofs.TableLaws.{patches_are_table}
use Rattle.cv_manager.proofs.NewVersion.{new_version, old_version, tables_are}
use Rattle.cv_manager.proofs.Stands.{each_append, stand_long}
use Rattle.cv_manager.proofs.kept.Kept.version_of.Goals as goal

pub table_of-requires-clause-table : goal.table_of-requires-clause-table
table_of-requires-clause-table c =
    let k = c.args.self.now in
    let opened = opened_list c.args.opened.now in
    ap (λ (l : List Case). is_table (patches_from 0 (l ++ opened) c.args.progress.now)) c.as_slice.ensures.value
    ∙ patches_are_table k.plan 0 c.requires.stand.0 (k.cases.items ++ opened) c.args.progress.now
    (each_append (IsCase k.plan.image) k.cases.items opened c.requires.kept.each c.requires.cases)
    c.requires.stand.1

pub table_of-requires-clause-each : goal.table_of-requires-clause-each
table_of-requires-clause-each c =
    let k = c.args.self.now in
    let opened = opened_list c.args.opened.now in
    stand_long k.plan 0 c.requires.stand.0 (k.cases.items ++ opened) c.args.progress.now c.requires.stand.1
    ∙ ap (λ (l : List Case). length (l ++ opened)) (sym c.as_slice.ensures.value)

pub returns-then-is_newest : goal.returns-then-is_newest
returns-then-is_newest c =
    let k = c.args.self.now in
    λ past stand.
    old_version (ledger_of k).versions c.in_ok-table.table _
    (tables_are k.plan c.as_slice.result.now k.cases.items (opened_list c.args.opened.now) c.args.progress.now c.in_ok-table.table past c.as_slice.ensures.value c.in_ok-table.ensures stand)
    (sym c.is_newest.ensures ∙ c.if-is_newest.true)

pub returns : goal.returns
returns c =
    let k = c.args.self.now in
    λ past stand.
    ap Some c.in_ok-new.ensures.ok
    ∙ new_version (ledger_of k).versions c.in_ok-table.table _
    (tables_are k.plan c.as_slice.result.now k.cases.items (opened_list c.args.opened.now) c.args.progress.now c.in_ok-table.table past c.as_slice.ensures.value c.in_ok-table.ensures stand)
    (sym c.is_newest.ensures ∙ c.if-is_newest.false)
