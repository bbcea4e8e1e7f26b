-- An adopter over the versions of a history and the rows of an entry (docs/REPAIR.md, "Audit").
use Rattle.std.specs.Prelude.{◌≡◌, ◌≤◌, ◌<◌, ℕ, ◌-◌, List, [], ◌∷◌, ◌++◌, length, replicate}
use Rattle.std.specs.List.{AllByRecursion}
use Rattle.cv_base.specs.declared.entries.Adopted.{Adopted}
use Rattle.cv_histories.specs.Rows.{written}
use Rattle.cv_runs.specs.PatchedRun.{Table}
use Rattle.cv_audit.specs.Rising.{RiseFrom}

-- what it was made with
pub record ScriptOf : Type 0 where
  pub tables : List Table
  pub rows : List Adopted

-- and the rows that are left, of whose first so many block entries were answered, and the last answer
pub record Scripted : Type 0 where
  pub script : ScriptOf
  pub rest : List Adopted
  pub used : ℕ
  pub last : ℕ

-- the versions that are left
abbrev pub left_of : List Adopted → ℕ → List ℕ
left_of [] used = []
left_of (a ∷ rest) used = replicate (a.entries - used) a.version ++ written rest

-- some of the first row is left
abbrev pub IsSomeLeft : List Adopted → ℕ → Type 0
IsSomeLeft [] used = Unit {0}
IsSomeLeft (a ∷ rest) used = used < a.entries

-- no row counts nothing
abbrev pub AreCounted : List Adopted → Type 0
AreCounted rows = AllByRecursion (λ (a : Adopted). 1 ≤ a.entries) rows

pub record IsScripted (s : Scripted) : Type 0 where
  pub some_left : IsSomeLeft s.rest s.used
  pub counted : AreCounted s.rest
  pub rises : RiseFrom s.last s.rest
  pub places : AllByRecursion (λ (a : Adopted). a.version < length s.script.tables) s.rest
  pub last_place : s.last < length s.script.tables

-- a script was answered so far, and this is left of it; when it is used up, anything
abbrev pub Follows : List ℕ → List ℕ → List ℕ → Type 0
Follows script [] left = left ≡ script
Follows [] (v ∷ vs) left = left ≡ []
Follows (w ∷ script) (v ∷ vs) left = (v ≡ w) × Follows script vs left

-- its answers so far
abbrev pub HasFollowed : Scripted → List ℕ → Type 0
HasFollowed s versions = Follows (written s.script.rows) versions (left_of s.rest s.used)

-- a version that may have been answered
abbrev pub MayBeAnswered : Scripted → ℕ → Type 0
MayBeAnswered s version = (version ≤ s.last) × (version < length s.script.tables)
