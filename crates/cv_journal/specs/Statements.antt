-- Laws of pieces and of numbers (docs/FORMATS.md, "Text forms").
use Rattle.std.specs.Prelude.{◌≡◌, ℕ, List, [], Some}
use Rattle.std.specs.Fmt.{decimal}
use Rattle.std.specs.List.{join_with_byte}
use Rattle.cv_journal.specs.LineOf.{IsWord}
use Rattle.cv_journal.specs.Reading.{number_in, pieces}

-- the pieces of a text, joined by the mark, are the text
abbrev pub PiecesJoin : Type 0
PiecesJoin = (mark : ℕ) (s : List ℕ) → join_with_byte mark (pieces mark s) ≡ s

-- each text has a piece
abbrev pub SomePiece : Type 0
SomePiece = (mark : ℕ) (s : List ℕ) → pieces mark s ≡ [] → ⊥

-- what is read as a number is the decimal text of a number in 32 bits, and each such text is read as its number
abbrev pub NumbersAreReadBack : Type 0
NumbersAreReadBack =
    ((s : List ℕ) (n : ℕ) → number_in s ≡ Some n → IsWord n × (s ≡ decimal n)) × ((n : ℕ) → IsWord n → number_in (decimal n) ≡ Some n)
