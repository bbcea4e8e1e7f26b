-- A disk in memory: the record of its calls, and what follows from it.
use Rattle.std.specs.Prelude.{◌≡◌, ◌⊎◌, ℕ, ◌≤◌, Bool, true, false, List, [], ◌∷◌, length, Result, Ok, Err}
use Rattle.cv_edge.specs.Edge.{counted}
use Rattle.cv_edge.specs.Memory.{fails_next}
use Rattle.cv_edge.specs.Disk.{Meaning, written, Torn}
use Rattle.cv_edge.specs.declared.disk.DiskFail.{DiskFail}
use Rattle.cv_edge.specs.declared.disk.DiskFail.TheVariants.{Failed, NoMemory}
use Rattle.cv_edge.specs.declared.mem_disk.Row.{Row}
use Rattle.cv_edge.specs.declared.mem_disk.Row.TheVariants.{Looked, Wrote, Synced}

-- its calls, the newest first, the numbers of the calls that are to fail, and its count of faults
pub record Recorded : Type 0 where
  pub rows : List Row
  pub failing : List ℕ
  pub faults : ℕ

-- the content after these calls
abbrev pub content_of : List Row → List ℕ
content_of [] = []
content_of (Looked ∷ rows) = content_of rows
content_of (Wrote at piece true ∷ rows) = written at piece (content_of rows)
content_of (Wrote at piece false ∷ rows) = content_of rows
content_of (Synced done ∷ rows) = content_of rows

-- a crash after these calls may leave this
abbrev pub IsImage : List Row → List ℕ → Type 0
IsImage [] c = c ≡ []
IsImage (Looked ∷ rows) c = IsImage rows c
IsImage (Wrote at piece done ∷ rows) c = (d : List ℕ) × IsImage rows d × Torn at (length piece) d c
IsImage (Synced true ∷ rows) c = c ≡ content_of rows
IsImage (Synced false ∷ rows) c = IsImage rows c

-- a crash after t of these calls, or after more of them, might have left this
abbrev pub IsImageSince : List Row → ℕ → List ℕ → Type 0
IsImageSince [] t c = IsImage [] c
IsImageSince (row ∷ rows) t c = IsImage (row ∷ rows) c ⊎ ((t ≤ length rows) × IsImageSince rows t c)

-- what a disk in memory means; its moment is the number of its calls
abbrev pub recorded : Meaning Recorded
recorded = record {
  tells = Unit {0};
  content = λ d. content_of d.rows;
  image = λ d. IsImage d.rows;
  moment = λ d. length d.rows;
  image_since = λ d. IsImageSince d.rows;
  faults = λ d. d.faults;
}

-- What a call leaves: its row, by whether it was done; a fault counted, where it was to fail; all as before, where memory is refused
abbrev pub Noted : {T : Type 0} → (Bool → Row) → Result T DiskFail → Recorded → Recorded → Type 0
Noted row (Ok answer) old new = (fails_next old.failing (length old.rows) ≡ false) × (new ≡ record old { rows = row true ∷ old.rows })
Noted row (Err Failed) old new =
    (fails_next old.failing (length old.rows) ≡ true) × (new ≡ record old { rows = row false ∷ old.rows; faults = counted old.faults })
Noted row (Err NoMemory) old new = new ≡ old
