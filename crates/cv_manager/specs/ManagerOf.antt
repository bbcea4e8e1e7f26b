-- What a manager stands for: a plan, and the history that was posted to it (docs/REPAIR.md,
-- "Histories").
use Rattle.std.specs.Prelude.{ℕ, if◌then◌else◌, List, [], ◌∷◌, length, Option, Some, None, slice_get}
use Rattle.cv_base.specs.declared.cases.Case.{Case}
use Rattle.cv_base.specs.declared.entries.Entry.{Entry}
use Rattle.cv_base.specs.PlanOf.{PlanOf}
use Rattle.cv_histories.specs.Cases.{cases}
use Rattle.cv_histories.specs.Seen.{Seen}
use Rattle.cv_histories.specs.Versions.{Ledger, ledger, newest_of, same_table, seen_by, table}
use Rattle.cv_runs.specs.PatchedRun.{Table}

pub record ManagerOf : Type 0 where
  pub plan : PlanOf
  pub past : List Entry  -- the newest first

abbrev pub empty_manager : PlanOf → ManagerOf
empty_manager plan = record { plan = plan; past = [] }

-- with one more entry
abbrev pub with_entry : ManagerOf → Entry → ManagerOf
with_entry m e = record m { past = e ∷ m.past }

abbrev pub ledger_in : ManagerOf → Ledger
ledger_in m = ledger m.plan m.past

abbrev pub seen_in : ManagerOf → List Seen
seen_in m = (ledger_in m).seen

abbrev pub cases_in : ManagerOf → List Case
cases_in m = cases m.plan (seen_in m)

abbrev pub case_in : ManagerOf → ℕ → Option Case
case_in m c = slice_get (cases_in m) c

-- the number of a new version, where the table is another than the last version's
abbrev pub number_if_new : List Table → Table → Option ℕ
number_if_new versions t = if same_table t (newest_of versions) then None else Some (length versions)

-- the number of the version that an entry adds
abbrev pub version_added : ManagerOf → Entry → Option ℕ
version_added m e = number_if_new (ledger_in m).versions (table m.plan (seen_by (ledger_in m) e))
