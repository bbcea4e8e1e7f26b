-- Laws on the versions of a history and the floors of its runs (docs/REPAIR.md, "Laws on histories").
use Rattle.std.specs.Prelude.{◌≡◌, ◌≤◌, ◌-◌, ℕ, Bool, false, List, ◌∷◌, Some, length, slice_get}
use Rattle.cv_base.specs.declared.entries.Entry.{Entry}
use Rattle.cv_base.specs.PlanOf.{PlanOf}
use Rattle.cv_histories.specs.Legal.{floor_of}
use Rattle.cv_histories.specs.Versions.{ledger, newest, newest_of}
use Rattle.cv_runs.specs.PatchedRun.{Table}

-- a history has a version
abbrev pub SomeVersion : Type 0
SomeVersion = (plan : PlanOf) (past : List Entry) → 1 ≤ length (ledger plan past).versions

-- the newest table is that of the last version
abbrev pub NewestIsLast : Type 0
NewestIsLast = (versions : List Table) → 1 ≤ length versions → slice_get versions (length versions - 1) ≡ Some (newest_of versions)

-- a version keeps its table with one more entry
abbrev pub TablesStay : Type 0
TablesStay =
    (plan : PlanOf) (past : List Entry) (e : Entry) (v : ℕ) (t : Table) → slice_get (ledger plan past).versions v ≡ Some t
    → slice_get (ledger plan (e ∷ past)).versions v ≡ Some t

-- a floor is at most the newest version
abbrev pub FloorIsBelow : Type 0
FloorIsBelow = (plan : PlanOf) (test : Entry → Bool) (past : List Entry) → floor_of plan test past ≤ newest plan past

-- and stays with an entry that does not pass its test
abbrev pub FloorStays : Type 0
FloorStays =
    (plan : PlanOf) (test : Entry → Bool) (past : List Entry) (e : Entry) → test e ≡ false
    → floor_of plan test (e ∷ past) ≡ floor_of plan test past
