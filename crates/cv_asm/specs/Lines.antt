-- How a source is cut into lines and pieces, and where its labels stand
-- (docs/FORMATS.md, "Assembly").
use Rattle.std.specs.Prelude.{ℕ, ◌*◌, ◌-◌, Bool, false, ◌==◌, ◌||◌, ◌&&◌, nat_lt, if◌then◌else◌, List, [], ◌∷◌, length, take, slice_index, Option, Some, None, position, filter, count_by}
use Rattle.std.specs.List.{before_first, list_all, slice_split}
use Rattle.std.specs.Option.{option_map}
use Rattle.std.specs.Char.{is_ascii_alphabetic, is_ascii_digit}
use Rattle.std.specs.Str.{bytes_eq}

-- the lines are parted by line feeds; the rest behind the last one is a line too
abbrev pub lines_of : List ℕ → List (List ℕ)
lines_of text = slice_split (λ b. b == 10) text

-- blank, tab, carriage return, comma, and the round brackets
abbrev pub is_separator : ℕ → Bool
is_separator b = (b == 32) || (b == 9) || (b == 13) || (b == 44) || (b == 40) || (b == 41)

-- the longest runs of other bytes
abbrev pub pieces_of : List ℕ → List (List ℕ)
pieces_of line = filter (λ p. nat_lt 0 (length p)) (slice_split is_separator line)

-- a line before its first `#`
abbrev pub without_comment : List ℕ → List ℕ
without_comment line = before_first (λ b. b == 35) line

-- a line: the label that it defines, without its `:`, and its instruction: a name and operands
pub record Line : Type 0 where
  pub label : Option (List ℕ)
  pub code : List (List ℕ)

-- the piece ends with `:`
abbrev pub ends_with_colon : List ℕ → Bool
ends_with_colon piece = slice_index piece (length piece - 1) == 58

-- a first piece that ends with `:` is a label, and the pieces after it are the instruction
abbrev pub line_of_pieces : List (List ℕ) → Line
line_of_pieces [] = record { label = None; code = [] }
line_of_pieces (piece ∷ rest) =
    if ends_with_colon piece then record { label = Some (take (length piece - 1) piece); code = rest }
    else record { label = None; code = piece ∷ rest }

abbrev pub line_of : List ℕ → Line
line_of line = line_of_pieces (pieces_of (without_comment line))

-- ---- labels

abbrev pub is_letter : ℕ → Bool
is_letter c = is_ascii_alphabetic c || (c == 95)

-- an ASCII letter or `_`, and then letters, digits and `_`
abbrev pub is_label : List ℕ → Bool
is_label [] = false
is_label (c ∷ cs) = is_letter c && list_all (λ b. is_letter b || is_ascii_digit b) cs

abbrev pub is_named : List ℕ → Option (List ℕ) → Bool
is_named label None = false
is_named label (Some name) = bytes_eq label name

-- the line defines the label
abbrev pub defines : List ℕ → Line → Bool
defines label x = is_named label x.label

-- the number of lines that have an instruction
abbrev pub instructions : List Line → ℕ
instructions lines = count_by (λ (x : Line). nat_lt 0 (length x.code)) lines

-- a label's place: four times the number of instructions in the lines before its first definition
abbrev pub place_in : List Line → List ℕ → Option ℕ
place_in lines label = option_map (λ i. 4 * instructions (take i lines)) (position (defines label) lines)
