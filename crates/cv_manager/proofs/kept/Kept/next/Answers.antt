use Rattle.std.proofs.Common.{◌++◌, ◌∙◌, List, ap, subst, sym}
use Rattle.cv_manager.specs.Kept.{if_new, ledger_of, seen_with}
use Rattle.cv_manager.specs.Progress.{ProgressOf, StandFrom}
use Rattle.cv_manager.specs.Tables.{opened_list}
use Rattle.cv_manager.proofs.Posted.{stand_now, table_now}
use Rattle.cv_manager.proofs.Room.{room}
use Rattle.cv_manager.proofs.kept.Kept.next.Goals as goal

pub progress_with-requires-clause-room : goal.progress_with-requires-clause-room
progress_with-requires-clause-room c = room c.args.self.now.plan _ c.requires.kept.limits c.requires.room

pub version_of-requires-clause-stand : goal.version_of-requires-clause-stand
version_of-requires-clause-stand c =
    let k = c.args.self.now in
    let e = c.args.entry.now in
    let opened = opened_list c.in_ok-opened.opened in (
      seen_with k e,
      subst (λ (ps : List ProgressOf). StandFrom k.plan 0 (seen_with k e) (k.cases.items ++ opened) ps) (sym (c.as_slice-2.ensures.value ∙ c.in_ok-progress-2.ensures))
          (stand_now k c.requires.kept e opened c.in_ok-progress.progress.items c.in_ok-progress.ensures),
    )

pub returns : goal.returns
returns c =
    let k = c.args.self.now in
    let e = c.args.entry.now in
    let opened = opened_list c.in_ok-opened.opened in
    let stands = λ (ps : List ProgressOf). StandFrom k.plan 0 (seen_with k e) (k.cases.items ++ opened) ps in
    let stand = subst stands (sym c.in_ok-progress-2.ensures) (stand_now k c.requires.kept e opened c.in_ok-progress.progress.items c.in_ok-progress.ensures) in
    record {
      last = c.in_ok-last.ensures;
      opened = c.in_ok-opened.ensures.opened;
      each = c.in_ok-opened.ensures.each;
      progress = stand;
      version =
          c.in_ok-version.ensures (seen_with k e) (subst stands (sym c.as_slice-2.ensures.value) stand)
          ∙ ap (if_new (ledger_of k).versions) (table_now k c.requires.kept e opened c.in_ok-opened.ensures.opened);
      changes = c.in_ok-changes.ensures e (subst (λ (ps : List ProgressOf). StandFrom k.plan 0 (seen_with k e) k.cases.items ps) (sym c.as_slice.ensures.value) c.in_ok-progress.ensures);
    }
