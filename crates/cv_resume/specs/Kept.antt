-- Kept rounds: the entries that pieces hold, the oldest first (docs/FORMATS.md, "Kept rounds").
use Rattle.std.specs.Prelude.{ℕ, Bool, ◌==◌, ◌+◌, ◌-◌, if◌then◌else◌, List, [], ◌∷◌, ◌++◌, length, take, slice_index, Option, Some, None, option_map, option_and_then, Result, Ok, Err}
use Rattle.cv_base.specs.declared.entries.Entry.{Entry}
use Rattle.cv_journal.specs.EntryReading.{entry_in}
use Rattle.cv_journal.specs.Reading.{both, only_where, pieces}

-- its last byte is a line feed
abbrev pub is_ended : List ℕ → Bool
is_ended text = slice_index text (length text - 1) == 10

-- the lines of a piece, each without its line feed; None where it is empty, or lacks its final line feed
unfoldable pub lines_in : List ℕ → Option (List (List ℕ))
lines_in piece = only_where (is_ended piece) (Some (pieces 10 (take (length piece - 1) piece)))

-- the entries of lines, numbered from k; None where one is the line of no entry with its number
abbrev pub entries_at : ℕ → List (List ℕ) → Option (List Entry)
entries_at k [] = Some []
entries_at k (line ∷ lines) = option_map (λ (q : Entry × List Entry). q.0 ∷ q.1) (both (entry_in k line) (entries_at (k + 1) lines))

-- the entries of a piece, numbered from k
abbrev pub entries_in : ℕ → List ℕ → Option (List Entry)
entries_in k piece = option_and_then (entries_at k) (lines_in piece)

abbrev pub with_piece : ℕ → Option (List Entry) → (List Entry → Result (List Entry) ℕ) → Result (List Entry) ℕ
with_piece number None next = Err number
with_piece number (Some more) next = next more

-- the entries before these pieces, and theirs, which go on in numbers; or the number of the first bad piece, where the first of these has this number
abbrev pub entries_behind : ℕ → List Entry → List (List ℕ) → Result (List Entry) ℕ
entries_behind number before [] = Ok before
entries_behind number before (piece ∷ pieces) =
    if number == 1024 then Err number
    else with_piece number (entries_in (length before) piece) (λ more. entries_behind (number + 1) (before ++ more) pieces)

-- the entries that pieces hold, in order, or the first piece that is empty, is no list of whole entry lines whose numbers go on, or has the number 1,024
abbrev pub entries_of : List (List ℕ) → Result (List Entry) ℕ
entries_of pieces = entries_behind 0 [] pieces
