-- The journal of a report's text (docs/FORMATS.md, "Reading a report").
use Rattle.std.specs.Prelude.{◌≡◌, ℕ, ◌+◌, Bool, if◌then◌else◌, List, [], ◌∷◌, take, drop, codes, slice_index_or, take_while, bytes_eq, Option, Some, None, Result, Ok, Err, ⊤}
use Rattle.cv_base.specs.declared.entries.Entry.{Entry}
use Rattle.cv_journal.specs.declared.faults.JournalFail.{JournalFail}
use Rattle.cv_journal.specs.declared.faults.JournalFail.TheVariants.{Refused, NoMemory}
use Rattle.cv_journal.specs.declared.faults.JournalFault.{JournalFault}
use Rattle.cv_journal.specs.declared.faults.JournalFault.TheVariants.{NotReport, OldReport, BadEntry}
use Rattle.cv_journal.specs.EntryReading.{entry_in}
use Rattle.cv_journal.specs.Reading.{pieces}

-- a line that has to be the line of an entry
unfoldable pub begins_entry : List ℕ → Bool
begins_entry line = bytes_eq (take 6 line) (codes "entry ")

-- the third line and those after it, as long as they begin with `entry `
abbrev pub entry_lines_in : List (List ℕ) → List (List ℕ)
entry_lines_in lines = take_while begins_entry (drop 2 lines)

abbrev pub with_first : Option Entry → ℕ → Result (List Entry) JournalFault → Result (List Entry) JournalFault
with_first None k rest = Err (BadEntry k)
with_first (Some e) k (Ok entries) = Ok (e ∷ entries)
with_first (Some e) k (Err fault) = Err fault

-- the entries of lines, numbered from k, or the first that is the line of no entry with its number
abbrev pub entries_from : ℕ → List (List ℕ) → Result (List Entry) JournalFault
entries_from k [] = Ok []
entries_from k (line ∷ lines) = with_first (entry_in k line) k (entries_from (k + 1) lines)

abbrev pub journal_with : List ℕ → List (List ℕ) → Result (List Entry) JournalFault
journal_with first lines =
    if bytes_eq first (codes "clearview report 1") then Err OldReport
    else (if bytes_eq first (codes "clearview report 2") then entries_from 0 (entry_lines_in lines) else Err NotReport)

-- lines are parted by line feeds; a rest without one is a line
abbrev pub journal_of : List ℕ → Result (List Entry) JournalFault
journal_of text = let lines = pieces 10 text in journal_with (slice_index_or lines 0 []) lines

-- what reading answers: the journal or its fault, or that memory was refused
abbrev pub Answers : Result (List Entry) JournalFault → Result (List Entry) JournalFail → Type 0
Answers journal (Ok entries) = journal ≡ Ok entries
Answers journal (Err (Refused fault)) = journal ≡ Err fault
Answers journal (Err NoMemory) = ⊤
