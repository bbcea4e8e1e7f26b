-- What is left of an entry's rows behind a cursor. Conditions of private parts, which no reader has to
-- believe.
use Rattle.std.specs.Prelude.{◌≡◌, ◌<◌, ℕ, ◌-◌, List, [], ◌∷◌, ◌++◌, drop, map, replicate, slice_index_or}
use Rattle.cv_base.specs.declared.entries.Adopted.{Adopted}
use Rattle.cv_exec.specs.LiveRun.{MayAdopt, Span, adoptions_of}
use Rattle.cv_histories.specs.Rows.{written}
use Rattle.cv_replay.specs.declared.cursor.Cursor.{Cursor}
use Rattle.cv_replay.specs.Script.{Rises, ScriptOf, adoptions}
use Rattle.cv_replay.specs.Statements.{adoption}
use Rattle.cv_runs.specs.PatchedRun.{Table}

-- the versions that are left, where so many of the first row are used
abbrev pub left_of : List Adopted → ℕ → List ℕ
left_of [] used = []
left_of (a ∷ rest) used = replicate (a.entries - used) a.version ++ written rest

abbrev pub left_at : List Adopted → Cursor → List ℕ
left_at rows c = left_of (drop c.row rows) c.used

-- some of the first row is left
abbrev pub IsSomeLeft : List Adopted → ℕ → Type 0
IsSomeLeft [] used = Unit {0}
IsSomeLeft (a ∷ rest) used = used < a.entries

abbrev pub IsCursor : List Adopted → Cursor → Type 0
IsCursor rows c = IsSomeLeft (drop c.row rows) c.used

-- the next of these versions may come behind these spans
abbrev pub MayFollow : List Table → List ℕ → List Span → Type 0
MayFollow versions [] spans = Unit {0}
MayFollow versions (v ∷ vs) spans = MayAdopt v (slice_index_or versions v []) spans

-- of what a script says, these spans were adopted, and this is left
pub record IsLeft (s : ScriptOf) (spans : List Span) (left : List ℕ) : Type 0 where
  pub whole : adoptions_of spans ++ map (adoption s.versions) left ≡ adoptions s
  pub rises : Rises left
  pub may : MayFollow s.versions left spans
