-- Rows of adopted versions as a walk through them tells them. Conditions of private parts.
use Rattle.std.specs.Prelude.{◌≢◌, ◌≤◌, ℕ, List, [], ◌∷◌, Option, Some}
use Rattle.cv_base.specs.declared.entries.Adopted.{Adopted}

-- versions that never fall, from v on
abbrev pub RiseFrom : ℕ → List Adopted → Type 0
RiseFrom v [] = Unit {0}
RiseFrom v (a ∷ rest) = (v ≤ a.version) × RiseFrom a.version rest

-- rows that count something, each with another version than the one before it
abbrev pub JoinedFrom : Option ℕ → List Adopted → Type 0
JoinedFrom last [] = Unit {0}
JoinedFrom last (a ∷ rest) = (1 ≤ a.entries) × (last ≢ Some a.version) × JoinedFrom (Some a.version) rest
