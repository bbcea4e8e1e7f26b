-- What the store and the sink in memory hold, and what a call leaves of it.
use Rattle.std.specs.Prelude.{ℕ, Bool, ◌==◌, ◌||◌, ◌-◌, min, nat_le, if◌then◌else◌, List, ◌++◌, length, take, find, Option}
use Rattle.std.specs.List.{list_any}
use Rattle.std.specs.Option.{option_map}
use Rattle.std.specs.Str.{bytes_eq}
use Rattle.cv_edge.specs.declared.mem_store.MemFile.{MemFile}
use Rattle.cv_edge.specs.Edge.{Held, counted}

-- whether the next call is one of those that are to fail; calls have numbers from 1
abbrev pub fails_next : List ℕ → ℕ → Bool
fails_next failing calls = list_any (λ call. call == counted calls) failing

-- a store in memory: its files, the newest first, and the calls that are to fail
pub record Shelf : Type 0 where
  pub files : List MemFile
  pub fetches : ℕ
  pub failing : List ℕ
  pub faults : ℕ

-- the bytes under a name
abbrev pub file_in : List MemFile → List ℕ → Option (List ℕ)
file_in files name = option_map (λ (f : MemFile). f.bytes) (find (λ (f : MemFile). bytes_eq f.name name) files)

-- what a store in memory tells
abbrev pub held_of : Shelf → Held
held_of s = record { file = file_in s.files; fetches = s.fetches }

-- the store after a fetch
abbrev pub after_fetch : Shelf → Shelf
after_fetch s = record s {
  fetches = counted s.fetches;
  faults = (if fails_next s.failing s.fetches then counted s.faults else s.faults);
}

-- a sink in memory: the bytes written, how many have room, how many one write takes, and the calls that are to fail
pub record Buffer : Type 0 where
  pub bytes : List ℕ
  pub room : ℕ
  pub piece : ℕ
  pub writes : ℕ
  pub failing : List ℕ
  pub faults : ℕ

-- whether the next write fails
abbrev pub refuses : Buffer → Bool
refuses s = fails_next s.failing s.writes || nat_le s.room (length s.bytes)

-- how many of so many bytes the next write takes, where it does not fail
abbrev pub takes : Buffer → ℕ → ℕ
takes s count = min count (min s.piece (s.room - length s.bytes))

-- the sink after a write of a piece
abbrev pub after_write : Buffer → List ℕ → Buffer
after_write s piece =
    if refuses s then record s { writes = counted s.writes; faults = counted s.faults }
    else record s { writes = counted s.writes; bytes = s.bytes ++ take (takes s (length piece)) piece }

-- a buffer that is filled from its front: the bytes that it has so far, and how many it can have
pub record Sheet : Type 0 where
  pub bytes : List ℕ
  pub room : ℕ

-- the buffer after a write of a piece: what goes past its end is dropped
abbrev pub after_sure_write : Sheet → List ℕ → Sheet
after_sure_write s piece = record s { bytes = take s.room (s.bytes ++ piece) }
