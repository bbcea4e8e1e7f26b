-- The table after a history, and the versions of its tables (docs/REPAIR.md, "Versions").
use Rattle.std.specs.Prelude.{ℕ, Bool, true, false, ◌&&◌, ◌==◌, ◌+◌, ◌-◌, if◌then◌else◌, List, [], ◌∷◌, ◌++◌, length, reverse, Option, Some, None, slice_get, unwrap_or}
use Rattle.cv_base.specs.declared.cases.Case.{Case}
use Rattle.cv_base.specs.declared.cases.Repair.{Repair}
use Rattle.cv_base.specs.declared.entries.Entry.{Entry}
use Rattle.cv_base.specs.declared.invariants.Invariant.{Invariant}
use Rattle.cv_base.specs.declared.patches.Action.{Action}
use Rattle.cv_base.specs.declared.patches.Action.TheVariants.{SetConst, SetCopy, SetSp, Skip, Return}
use Rattle.cv_base.specs.declared.patches.Patch.{Patch}
use Rattle.cv_base.specs.declared.patches.Patch.TheVariants.{Check, Enforce}
use Rattle.cv_base.specs.PlanOf.{PlanOf}
use Rattle.cv_runs.specs.Invariants.{key}
use Rattle.cv_runs.specs.PatchedRun.{Table}
use Rattle.cv_histories.specs.Cases.{cases}
use Rattle.cv_histories.specs.Classes.{is_decided}
use Rattle.cv_histories.specs.Installed.{installed}
use Rattle.cv_histories.specs.Repairs.{repairs_of}
use Rattle.cv_histories.specs.Seen.{Seen, last_version, table_at}

-- a check of each candidate
abbrev pub checks_from : ℕ → ℕ → List Invariant → Table
checks_from c x [] = []
checks_from c x (k ∷ ks) = Check c x k ∷ checks_from c (x + 1) ks

-- the patch of a repair, with its candidate's invariant
abbrev pub enforce_at : ℕ → ℕ → Repair → Option Invariant → Table
enforce_at c j repair None = []
enforce_at c j repair (Some k) = Enforce c j k repair.action ∷ []

abbrev pub enforce_of : ℕ → ℕ → Case → Option Repair → Table
enforce_of c j case None = []
enforce_of c j case (Some repair) = enforce_at c j repair (slice_get case.candidates repair.candidate)

abbrev pub installed_patch : PlanOf → ℕ → Case → List Seen → Option ℕ → Table
installed_patch plan c case past None = []
installed_patch plan c case past (Some j) = enforce_of c j case (slice_get (repairs_of plan c case past) j)

-- the patches of a case: its checks until it is decided, then its installed repair
abbrev pub case_table : PlanOf → ℕ → Case → List Seen → Table
case_table plan c case past =
    elim (is_decided plan c case past) [
      | true ↦ installed_patch plan c case past (installed plan c case past)
      | false ↦ checks_from c 0 case.candidates
    ]

abbrev pub tables_from : PlanOf → ℕ → List Case → List Seen → Table
tables_from plan c [] past = []
tables_from plan c (case ∷ rest) past = case_table plan c case past ++ tables_from plan (c + 1) rest past

-- the table after a history
abbrev pub table : PlanOf → List Seen → Table
table plan past = tables_from plan 0 (cases plan past) past

-- tables are equal where their patches are, by numbers that tell them apart
abbrev pub action_key : Action → List ℕ
action_key (SetConst reg value) = 0 ∷ reg ∷ value ∷ []
action_key (SetCopy reg source) = 1 ∷ reg ∷ source ∷ []
action_key (SetSp offset) = 2 ∷ offset ∷ []
action_key Skip = 3 ∷ []
action_key (Return offset) = 4 ∷ offset ∷ []

abbrev pub same_numbers : List ℕ → List ℕ → Bool
same_numbers [] [] = true
same_numbers (a ∷ as') (b ∷ bs) = (a == b) && same_numbers as' bs
same_numbers _ _ = false

abbrev pub same_patch : Patch → Patch → Bool
same_patch (Check c x k) (Check d y l) = (c == d) && (x == y) && same_numbers (key k) (key l)
same_patch (Enforce c x k a) (Enforce d y l b) = (c == d) && (x == y) && same_numbers (key k) (key l) && same_numbers (action_key a) (action_key b)
same_patch _ _ = false

abbrev pub same_table : Table → Table → Bool
same_table [] [] = true
same_table (p ∷ ps) (q ∷ qs) = same_patch p q && same_table ps qs
same_table _ _ = false

-- versions, the newest last; a table that differs from the newest one is a new version
abbrev pub newest_of : List Table → Table
newest_of versions = unwrap_or (slice_get versions (length versions - 1)) []

abbrev pub add_version : List Table → Table → List Table
add_version versions t = if same_table t (newest_of versions) then versions else versions ++ t ∷ []

-- the versions of a history, and its entries with the tables of their last adopted versions
pub record Ledger : Type 0 where
  pub versions : List Table
  pub seen : List Seen

abbrev pub seen_by : Ledger → Entry → List Seen
seen_by l e = record { entry = e; last = table_at l.versions (last_version e.adopted) } ∷ l.seen

abbrev pub ledger_with : PlanOf → List Table → List Seen → Ledger
ledger_with plan versions seen = record { versions = add_version versions (table plan seen); seen = seen }

abbrev pub posted : PlanOf → Ledger → Entry → Ledger
posted plan l e = ledger_with plan l.versions (seen_by l e)

-- of a history whose newest entry is first
abbrev pub ledger : PlanOf → List Entry → Ledger
ledger plan [] = record { versions = [] ∷ []; seen = [] }
ledger plan (e ∷ past) = posted plan (ledger plan past) e

-- of a history in its order
abbrev pub versions_of : PlanOf → List Entry → List Table
versions_of plan history = (ledger plan (reverse history)).versions

-- the number of the newest version
abbrev pub newest : PlanOf → List Entry → ℕ
newest plan past = length ((ledger plan past).versions) - 1
