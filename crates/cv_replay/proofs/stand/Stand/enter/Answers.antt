use Rattle.std.proofs.Common.{◌≡◌, ◌∙◌, ◌<◌, List, length, drop, Some, sym, subst}
use Rattle.std.specs.Prelude.{slice_get}
use Rattle.cv_base.specs.declared.entries.Adopted.{Adopted}
use Rattle.cv_replay.proofs.NextTurn.{entered_at, may_adopt, some_left, version_within}
use Rattle.cv_replay.specs.Left.{IsCursor, left_at}
use Rattle.cv_replay.proofs.stand.Stand.enter.Goals as goal

pub version-version-requires-clause-left : goal.version-version-requires-clause-left
version-version-requires-clause-left c =
    subst (λ (rows : List Adopted). 0 < length (left_at rows c.args.self.now.cursor)) (sym c.rows-rows.ensures)
    (some_left c.args.script.now c.args.self.now c.requires.near c.requires.script (sym c.wants_entry.ensures ∙ c.if-not-wants_entry.false))

pub table-requires : goal.table-requires
table-requires c =
    let wants = sym c.wants_entry.ensures ∙ c.if-not-wants_entry.false in
    version_within c.args.script.now c.args.self.now.cursor c.version-version.result c.requires.script.places
    (some_left c.args.script.now c.args.self.now c.requires.near c.requires.script wants) c.requires.near.behind.cursor
    (subst (λ (rows : List Adopted). slice_get (left_at rows c.args.self.now.cursor) 0 ≡ Some c.version-version.result) c.rows-rows.ensures c.version-version.ensures)

pub adopt-requires-clause-may : goal.adopt-requires-clause-may
adopt-requires-clause-may c =
    let wants = sym c.wants_entry.ensures ∙ c.if-not-wants_entry.false in
    may_adopt c.args.script.now c.args.self.now c.version-version.result c.in_ok-table.table.value c.requires.near c.requires.script wants
    (subst (λ (rows : List Adopted). slice_get (left_at rows c.args.self.now.cursor) 0 ≡ Some c.version-version.result) c.rows-rows.ensures c.version-version.ensures)
    c.in_ok-table.ensures

pub returns-clause-at : goal.returns-clause-at
returns-clause-at c =
    let wants = sym c.wants_entry.ensures ∙ c.if-not-wants_entry.false in
    let told = c.in_ok-adopt.ensures in
    entered_at c.args.script.now c.args.self.now (record { flight = c.adopt.new.self; cursor = c.next-self.result }) c.version-version.result c.in_ok-table.table.value c.requires.script c.requires.near wants
    (subst (λ (rows : List Adopted). slice_get (left_at rows c.args.self.now.cursor) 0 ≡ Some c.version-version.result) c.rows-rows.ensures c.version-version.ensures)
    c.in_ok-table.ensures told.going told.flight told.plan
    (subst (λ (rows : List Adopted). left_at rows c.next-self.result ≡ drop 1 (left_at rows c.args.self.now.cursor)) c.rows-rows.ensures c.next-self.ensures.left)
    (subst (λ (rows : List Adopted). IsCursor rows c.next-self.result) c.rows-rows.ensures c.next-self.ensures.cursor)
