-- Posted entries with the tables of their last adopted versions (docs/REPAIR.md, "Histories").
use Rattle.std.specs.Prelude.{◌≡◌, ◌≤◌, ℕ, true, List, [], ◌∷◌, length, map, reverse}
use Rattle.std.specs.List.{AllByRecursion, list_any}
use Rattle.cv_base.specs.declared.entries.Entry.{Entry}
use Rattle.cv_histories.specs.Scores.{is_enforce_of}
use Rattle.cv_histories.specs.Seen.{Seen}
use Rattle.cv_manager.specs.declared.TheConstants.{MOST_ENTRIES}
use Rattle.cv_runs.specs.PatchedRun.{Table}

-- entries and tables side by side, the oldest first
abbrev pub paired : List Entry → List Table → List Seen
paired (e ∷ es) (t ∷ ts) = record { entry = e; last = t } ∷ paired es ts
paired _ _ = []

-- and the newest first
abbrev pub seen_of : List Entry → List Table → List Seen
seen_of entries lasts = reverse (paired entries lasts)

abbrev pub entries_of : List Seen → List Entry
entries_of seen = map (λ (s : Seen). s.entry) seen

-- a table enforces one repair of a case at most
abbrev pub EnforcesOne : Table → Type 0
EnforcesOne t = (c i j : ℕ) → list_any (is_enforce_of c i) t ≡ true → list_any (is_enforce_of c j) t ≡ true → i ≡ j

-- a table for each entry, and room for as many as a plan has runs
pub record IsJournal (entries : List Entry) (lasts : List Table) (entry_room last_room : ℕ) : Type 0 where
  pub each : length lasts ≡ length entries
  pub one : AllByRecursion EnforcesOne lasts
  pub few : length entries ≤ MOST_ENTRIES
  pub room_for_entries : MOST_ENTRIES ≤ entry_room
  pub room_for_lasts : MOST_ENTRIES ≤ last_room
