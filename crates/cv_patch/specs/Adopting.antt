-- What the tables of an adopter keep, and an adopter over a script (docs/REPAIR.md, "Patched
-- runs").
use Rattle.std.specs.Prelude.{◌≡◌, ℕ, ◌≤◌, ◌<◌, Bool, true, ◌&&◌, nat_le, nat_lt, List, [], ◌∷◌, ◌++◌, length}
use Rattle.std.specs.List.{list_all}
use Rattle.cv_base.specs.declared.patches.Patch.{Patch}

-- a list goes on with what was added
abbrev pub IsGrown : List (List Patch) → List (List Patch) → Type 0
IsGrown old new = (more : List (List Patch)) × (new ≡ old ++ more)

-- tables by version, and the versions that are still to be answered: the last one again and again
pub record Scripted : Type 0 where
  pub tables : List (List Patch)
  pub script : List ℕ

abbrev pub never_falls : List ℕ → Bool
never_falls [] = true
never_falls (a ∷ []) = true
never_falls (a ∷ b ∷ rest) = nat_le a b && never_falls (b ∷ rest)

-- some versions that never fall, each a place of the tables
pub record IsScript (s : Scripted) : Type 0 where
  pub some : 0 < length s.script
  pub rises : never_falls s.script ≡ true
  pub places : list_all (λ v. nat_lt v (length s.tables)) s.script ≡ true

-- the version that is answered next, and what is still to be answered then
abbrev pub next_of : List ℕ → ℕ
next_of [] = 0
next_of (a ∷ rest) = a

abbrev pub rest_of : List ℕ → List ℕ
rest_of [] = []
rest_of (a ∷ []) = a ∷ []
rest_of (a ∷ b ∷ rest) = b ∷ rest

-- a version that may have been answered
abbrev pub MayHaveAnswered : Scripted → ℕ → Type 0
MayHaveAnswered s version = (version ≤ next_of s.script) × (version < length s.tables)
