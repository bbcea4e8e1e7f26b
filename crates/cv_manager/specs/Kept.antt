-- What a manager keeps of a plan and a history, and what one more entry makes of it
-- (docs/REPAIR.md, "Histories").
use Rattle.std.specs.Prelude.{◌≡◌, ◌≤◌, if◌then◌else◌, List, ◌∷◌, ◌++◌, ◌+◌, length, map, Option, Some, None, option_map, vec_capacity}
use Rattle.std.specs.List.{AllByRecursion}
use Rattle.cv_base.specs.declared.entries.Entry.{Entry}
use Rattle.cv_base.specs.PlanOf.{IsPlan}
use Rattle.cv_base.specs.WellFormed.{IsImage}
use Rattle.cv_blocks.specs.TextMap.{text_only}
use Rattle.cv_histories.specs.Cases.{cases, opened_by}
use Rattle.cv_histories.specs.declared.TheConstants.{MOST_CASES}
use Rattle.cv_histories.specs.Installed.{changes}
use Rattle.cv_histories.specs.Report.{makers}
use Rattle.cv_histories.specs.Seen.{Seen, last_version, live_failure, observed, table_at}
use Rattle.cv_histories.specs.Versions.{Ledger, ledger, newest_of, same_table, table}
use Rattle.cv_manager.specs.declared.kept.Kept.{Kept}
use Rattle.cv_manager.specs.declared.kept.Next.{Next}
use Rattle.cv_manager.specs.declared.TheConstants.{MOST_VERSIONS}
use Rattle.cv_manager.specs.Journal.{entries_of}
use Rattle.cv_manager.specs.Progress.{StandFrom}
use Rattle.cv_manager.specs.Tables.{IsCase, opened_list}
use Rattle.cv_observe.specs.StandsFor.{StandsFor}
use Rattle.cv_runs.specs.PatchedRun.{Table}

-- the history, the newest entry first
abbrev pub past_of : Kept → List Entry
past_of k = entries_of k.journal

abbrev pub ledger_of : Kept → Ledger
ledger_of k = ledger k.plan (past_of k)

-- each part is what the definitions make of the history
pub record IsKept (k : Kept) : Type 0 where
  pub limits : IsPlan k.plan
  pub image : IsImage k.plan.image
  pub text : k.map ≡ text_only k.plan.image
  pub seen : k.journal ≡ (ledger_of k).seen
  pub versions : map (λ t. t.value) k.versions.items ≡ (ledger_of k).versions
  pub makers : k.makers.items ≡ makers k.plan (past_of k)
  pub cases : k.cases.items ≡ cases k.plan k.journal
  pub each : AllByRecursion (IsCase k.plan.image) k.cases.items
  pub progress : StandFrom k.plan 0 k.journal k.cases.items k.progress.items
  pub changes : k.changes.items ≡ changes k.plan k.journal
  pub summary : k.summary.text ≡ text_only k.plan.image
  pub learned : StandsFor k.summary (observed k.plan k.journal)
  pub few_cases : length k.cases.items ≤ MOST_CASES
  pub few_versions : length k.versions.items ≤ length k.journal + 1
  pub each_progress : length k.progress.items ≡ length k.cases.items
  pub room_for_cases : MOST_CASES ≤ vec_capacity k.cases
  pub room_for_versions : MOST_VERSIONS ≤ vec_capacity k.versions
  pub room_for_makers : MOST_VERSIONS ≤ vec_capacity k.makers

-- the entry with the table of its last adopted version
abbrev pub seen_as : Kept → Entry → Seen
seen_as k e = record { entry = e; last = table_at (ledger_of k).versions (last_version e.adopted) }

abbrev pub seen_with : Kept → Entry → List Seen
seen_with k e = seen_as k e ∷ k.journal

abbrev pub table_with : Kept → Entry → Table
table_with k e = table k.plan (seen_with k e)

-- a table that is another than the last version's
abbrev pub if_new : List Table → Table → Option Table
if_new versions t = if same_table t (newest_of versions) then None else Some t

-- what one more entry makes anew
pub record IsNext (k : Kept) (e : Entry) (n : Next) : Type 0 where
  pub last : n.last.value ≡ table_at (ledger_of k).versions (last_version e.adopted)
  pub opened : opened_list n.opened ≡ opened_by k.plan k.cases.items (seen_with k e) e.sites (live_failure e)
  pub each : AllByRecursion (IsCase k.plan.image) (opened_list n.opened)
  pub progress : StandFrom k.plan 0 (seen_with k e) (k.cases.items ++ opened_list n.opened) n.progress.items
  pub version : option_map (λ t. t.value) n.version ≡ if_new (ledger_of k).versions (table_with k e)
  pub changes : n.changes.items ≡ changes k.plan (seen_with k e)
