-- What the loops of this crate have still to read.
use Rattle.std.specs.Prelude.{ℕ, suc, length, ◌+◌, ◌-◌, ◌*◌, ◌^◌, ◌&&◌, nat_lt, List, [], ◌∷◌, ◌++◌, Option, Some, None, Result, Ok, Err, option_map}
use Rattle.std.specs.Char.{is_ascii_digit}
use Rattle.cv_base.specs.declared.entries.Entry.{Entry}
use Rattle.cv_journal.specs.declared.faults.JournalFault.{JournalFault}
use Rattle.cv_journal.specs.Reading.{only_where, pieces}

-- the digits behind the number n; it ends where the number would leave 32 bits
abbrev pub digits_after : ℕ → List ℕ → Option ℕ
digits_after n [] = Some n
digits_after n (c ∷ cs) = only_where (is_ascii_digit c && nat_lt (n * 10 + (c - 48)) (2 ^ 32)) (digits_after (n * 10 + (c - 48)) cs)

-- the pieces that are left, none where no text is
abbrev pub pieces_left : ℕ → Option (List ℕ) → List (List ℕ)
pieces_left mark None = []
pieces_left mark (Some text) = pieces mark text

-- how much of it is left
abbrev pub text_left : Option (List ℕ) → ℕ
text_left None = 0
text_left (Some text) = suc (length text)

-- what was read, in front of what the rest gives
abbrev pub prepended : {A : Type 0} → List A → Option (List A) → Option (List A)
prepended done rest = option_map (λ more. done ++ more) rest

abbrev pub read_before : List Entry → Result (List Entry) JournalFault → Result (List Entry) JournalFault
read_before done (Ok rest) = Ok (done ++ rest)
read_before done (Err fault) = Err fault
