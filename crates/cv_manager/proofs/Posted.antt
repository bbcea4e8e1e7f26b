-- What one more entry makes of what is kept.
use Rattle.std.proofs.Common.{◌≡◌, ◌≤◌, ◌+◌, ℕ, List, [], ◌∷◌, ◌++◌, length, map, sym, ap, ◌∙◌, arith}
use Rattle.std.proofs.lemmas.List.{append-nil}
use Rattle.cv_base.specs.declared.cases.Case.{Case}
use Rattle.cv_base.specs.declared.cases.Change.{Change}
use Rattle.cv_base.specs.declared.entries.Entry.{Entry}
use Rattle.cv_histories.specs.Cases.{cases, opened_by}
use Rattle.cv_histories.specs.Classes.{checked_failures}
use Rattle.cv_histories.specs.Installed.{changes, changes_at}
use Rattle.cv_histories.specs.Seen.{Seen, live_failure}
use Rattle.cv_histories.specs.Versions.{tables_from}
use Rattle.cv_manager.specs.Kept.{IsKept, ledger_of, past_of, seen_as, seen_with, table_with}
use Rattle.cv_manager.specs.Progress.{ProgressOf, StandFrom, no_progress}
use Rattle.cv_manager.specs.Tables.{changes_from}
use Rattle.cv_manager.specs.declared.kept.Kept.{Kept}
use Rattle.cv_manager.proofs.Fresh.{no_checked_failures_with}
use Rattle.cv_manager.proofs.TableLaws.{changes_are}
use Rattle.cv_manager.proofs.Stands.{changes_at-append, new_ones_stand, no_changes, stand_append}

module _ (k : Kept) (kept : IsKept k) (e : Entry) where
  -- a case that is opened now has no checked failure
  pub fresh : (c : ℕ) (case : Case) → length k.cases.items ≤ c → checked_failures c case (seen_with k e) ≡ []
  fresh c case above =
      let same : length k.cases.items ≡ length (cases k.plan ((ledger_of k).seen)) = ap length kept.cases ∙ ap (λ (seen : List Seen). length (cases k.plan seen)) kept.seen in
      ap (λ (seen : List Seen). checked_failures c case (seen_as k e ∷ seen)) kept.seen
      ∙ no_checked_failures_with k.plan (past_of k) e c case (omega arith)

  pub changes_now : (qs : List ProgressOf) → StandFrom k.plan 0 (seen_with k e) k.cases.items qs
      → k.changes.items ++ changes_from (length k.journal) 0 k.progress.items qs ≡ changes k.plan (seen_with k e)
  changes_now qs stand =
      let s = seen_as k e in
      let opened = opened_by k.plan (cases k.plan k.journal) (s ∷ k.journal) e.sites (live_failure e) in
      let none : changes_at k.plan (0 + length k.cases.items) opened s k.journal ≡ [] =
      no_changes k.plan kept.limits.some_checks (0 + length k.cases.items) opened s k.journal (λ n case above. fresh n case (omega arith)) in
      let all : changes_at k.plan 0 (k.cases.items ++ opened) s k.journal ≡ changes_at k.plan 0 k.cases.items s k.journal =
      changes_at-append k.plan 0 k.cases.items opened s k.journal
      ∙ ap (λ (l : List Change). changes_at k.plan 0 k.cases.items s k.journal ++ l) none
      ∙ append-nil (changes_at k.plan 0 k.cases.items s k.journal) in
      ap (λ (l : List Change). l ++ changes_from (length k.journal) 0 k.progress.items qs) kept.changes
      ∙ ap (λ (l : List Change). changes k.plan k.journal ++ l)
      (changes_are k.plan 0 s k.journal k.cases.items k.progress.items qs kept.progress stand
      ∙ sym all
      ∙ ap (λ (l : List Case). changes_at k.plan 0 (l ++ opened) s k.journal) kept.cases)

  -- the progress of all cases, those that are opened now among them
  pub stand_now : (opened : List Case) (ps : List ProgressOf) → StandFrom k.plan 0 (seen_with k e) k.cases.items ps
      → StandFrom k.plan 0 (seen_with k e) (k.cases.items ++ opened) (ps ++ map (λ (_ : Case). no_progress) opened)
  stand_now opened ps stand =
      stand_append k.plan 0 (seen_with k e) k.cases.items opened ps (map (λ (_ : Case). no_progress) opened) stand
      (new_ones_stand k.plan kept.limits.some_checks (0 + length k.cases.items) (seen_with k e) opened (λ n case above. fresh n case (omega arith)))

  pub cases_now : (opened : List Case) → opened ≡ opened_by k.plan k.cases.items (seen_with k e) e.sites (live_failure e) → k.cases.items ++ opened ≡ cases k.plan (seen_with k e)
  cases_now opened is =
      ap (λ (l : List Case). k.cases.items ++ l) is
      ∙ ap (λ (l : List Case). l ++ opened_by k.plan l (seen_with k e) e.sites (live_failure e)) kept.cases

  pub table_now : (opened : List Case) → opened ≡ opened_by k.plan k.cases.items (seen_with k e) e.sites (live_failure e)
      → tables_from k.plan 0 (k.cases.items ++ opened) (seen_with k e) ≡ table_with k e
  table_now opened is = ap (λ (l : List Case). tables_from k.plan 0 l (seen_with k e)) (cases_now opened is)
