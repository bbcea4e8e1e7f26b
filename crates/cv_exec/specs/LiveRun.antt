-- A live run of a plan, and what it adopts (docs/REPAIR.md, "Patched runs" and "Entries").
use Rattle.std.specs.Prelude.{◌≡◌, ℕ, ◌≤◌, ◌==◌, ◌+◌, if◌then◌else◌, List, [], ◌∷◌, map, replicate, Some, IsSomeAnd, slice_get}
use Rattle.std.specs.List.{AllByRecursion, flat_map}
use Rattle.cv_base.specs.declared.entries.Adopted.{Adopted}
use Rattle.cv_base.specs.declared.plan.Mode.TheVariants.{Live}
use Rattle.cv_base.specs.PlanOf.{PlanOf}
use Rattle.cv_histories.specs.Flight.{Adoption}
use Rattle.cv_histories.specs.Runs.{Run, run_at}
use Rattle.cv_runs.specs.PatchedRun.{Table}

-- the number is that of a live run of the plan
abbrev pub IsLiveRun : PlanOf → ℕ → Type 0
IsLiveRun plan number = IsSomeAnd (run_at plan number) (λ (run : Run). run.mode ≡ Live)

-- a version that block entries in a row adopted, how many, and its table
pub record Span : Type 0 where
  pub version : ℕ
  pub entries : ℕ
  pub table : Table

-- the rows of an entry
abbrev pub rows_of : List Span → List Adopted
rows_of spans = map (λ (s : Span). record { version = s.version; entries = s.entries }) spans

-- what each block entry adopted
abbrev pub adoptions_of : List Span → List Adoption
adoptions_of spans = flat_map (λ (s : Span). replicate s.entries (record { version = s.version; table = s.table })) spans

-- one block entry more
abbrev pub one_entry_more : ℕ → Table → List Span → List Span
one_entry_more version table [] = record { version = version; entries = 1; table = table } ∷ []
one_entry_more version table (s ∷ []) =
    if s.version == version
    then record s { entries = s.entries + 1 } ∷ []
    else s ∷ record { version = version; entries = 1; table = table } ∷ []
one_entry_more version table (s ∷ t ∷ rest) = s ∷ one_entry_more version table (t ∷ rest)

-- a version may come next: not below the last one and, where it is the last one, with its table
abbrev pub MayAdopt : ℕ → Table → List Span → Type 0
MayAdopt version table [] = Unit {0}
MayAdopt version table (s ∷ []) = (s.version ≤ version) × (s.version ≡ version → s.table ≡ table)
MayAdopt version table (s ∷ t ∷ rest) = MayAdopt version table (t ∷ rest)

-- the versions of a list have these tables
abbrev pub HaveTables : List Table → List Span → Type 0
HaveTables versions spans = AllByRecursion (λ (s : Span). slice_get versions s.version ≡ Some s.table) spans
