-- Rows prepared for what a table may note.
use Rattle.std.specs.Prelude.{◌≡◌, ℕ, ◌<◌, ◌≤◌, Bool, true, false, if◌then◌else◌, List, length, fold}
use Rattle.std.specs.List.{AllWithin, HoldsAt, insert, prefix_len}
use Rattle.cv_base.specs.declared.entries.FiredRow.{FiredRow}
use Rattle.cv_base.specs.declared.entries.TallyRow.{TallyRow}
use Rattle.cv_base.specs.declared.patches.Patch.{Patch}
use Rattle.cv_base.specs.declared.patches.Patch.TheVariants.{Check, Enforce}
use Rattle.cv_patch.specs.Counts.{has_fired, has_tally, is_before}

-- a row that passes stands at a place
pub record StandsAt {X : Type 0} (is : X → Bool) (list : List X) (at : ℕ) : Type 0 where
  pub within : at < length list
  pub passes : HoldsAt (λ (r : X). is r ≡ true) list at

-- the rows before a place are lower, and those from there on are higher
pub record BelongsAt {X : Type 0} (lower higher : X → Bool) (list : List X) (at : ℕ) : Type 0 where
  pub within : at ≤ length list
  pub before : AllWithin (λ (r : X). lower r ≡ true) list 0 at
  pub behind : AllWithin (λ (r : X). higher r ≡ true) list at (length list)

-- a row before that of a candidate or a repair, and one behind it
abbrev pub is_lower : ℕ → ℕ → TallyRow → Bool
is_lower case index r = is_before r.case r.index case index

abbrev pub is_higher : ℕ → ℕ → TallyRow → Bool
is_higher case index r = is_before case index r.case r.index

abbrev pub is_lower_fired : ℕ → ℕ → FiredRow → Bool
is_lower_fired case index r = is_before r.case r.index case index

abbrev pub is_higher_fired : ℕ → ℕ → FiredRow → Bool
is_higher_fired case index r = is_before case index r.case r.index

abbrev pub unchecked : ℕ → ℕ → TallyRow
unchecked case index = record { case = case; index = index; checks = 0; violations = 0; last_held = false }

abbrev pub unfired : ℕ → ℕ → FiredRow
unfired case index = record { case = case; index = index; count = 0 }

-- the rows with one for a candidate, or for a repair: a new one at its place where there was none
abbrev pub with_candidate : ℕ → ℕ → List TallyRow → List TallyRow
with_candidate case index rows =
    if has_tally rows case index then rows else insert rows (prefix_len (is_lower case index) rows) (unchecked case index)

abbrev pub with_repair : ℕ → ℕ → List FiredRow → List FiredRow
with_repair case index rows =
    if has_fired rows case index then rows else insert rows (prefix_len (is_lower_fired case index) rows) (unfired case index)

-- the rows with one for what a patch may note
abbrev pub with_tally_for : List TallyRow → Patch → List TallyRow
with_tally_for rows (Check case index invariant) = with_candidate case index rows
with_tally_for rows (Enforce case index invariant action) = rows

abbrev pub with_fired_for : List FiredRow → Patch → List FiredRow
with_fired_for rows (Check case index invariant) = rows
with_fired_for rows (Enforce case index invariant action) = with_repair case index rows

-- the rows with one for each thing that some patches may note
abbrev pub with_tallies : List Patch → List TallyRow → List TallyRow
with_tallies patches rows = fold with_tally_for rows patches

abbrev pub with_all_fired : List Patch → List FiredRow → List FiredRow
with_all_fired patches rows = fold with_fired_for rows patches
