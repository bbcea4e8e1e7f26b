-- What a source says: the words of its instructions, or the fault of its first faulty line
-- (docs/FORMATS.md, "Assembly").
use Rattle.std.specs.Prelude.{ℕ, ◌+◌, ◌*◌, Bool, not, nat_lt, if◌then◌else◌, List, [], ◌∷◌, ◌++◌, length, map, Option, Some, None, Result, Ok, Err, codes}
use Rattle.std.specs.List.{list_any, cons_option}
use Rattle.std.specs.Option.{option_map_or}
use Rattle.std.specs.Str.{bytes_eq}
use Rattle.cv_isa.specs.declared.operation.Op.{Op}
use Rattle.cv_isa.specs.Names.{op_named, word_of}
use Rattle.cv_asm.specs.declared.fault.AsmFault.{AsmFault}
use Rattle.cv_asm.specs.declared.fault.LineFault.{LineFault}
use Rattle.cv_asm.specs.declared.fault.LineFault.TheVariants.{BadLabel, DoubleLabel, UnknownName, TooManyWords}
use Rattle.cv_asm.specs.declared.shapes.Kind.TheVariants as kind
use Rattle.cv_asm.specs.Lines.{Line, defines, instructions, is_label, line_of, lines_of, place_in}
use Rattle.cv_asm.specs.Operands.{operands_in}
use Rattle.cv_asm.specs.Results.{and_then, unless}
use Rattle.cv_asm.specs.Shapes.{instruction_with, kinds_of, shape_of}

-- ---- instructions

-- the word of a known instruction at `place`
unfoldable pub known_word : (List ℕ → Option ℕ) → ℕ → List (List ℕ) → Op → Result ℕ LineFault
known_word places place operands o =
    and_then (operands_in places place (kinds_of (shape_of o)) operands) (λ values. Ok (word_of (instruction_with (shape_of o) o values)))

abbrev pub first_value : List ℕ → ℕ
first_value [] = 0
first_value (v ∷ vs) = v

-- `.word`: the number itself
unfoldable pub data_word : (List ℕ → Option ℕ) → ℕ → List (List ℕ) → Result ℕ LineFault
data_word places place operands =
    and_then (operands_in places place (kind.Number 0 4294967295 ∷ []) operands) (λ values. Ok (first_value values))

-- the word of a name and its operands
abbrev pub named_word : (List ℕ → Option ℕ) → ℕ → List ℕ → List (List ℕ) → Result ℕ LineFault
named_word places place name operands =
    if bytes_eq name (codes ".word") then data_word places place operands
    else option_map_or (known_word places place operands) (op_named name) (Err UnknownName)

-- there are at most 65,536 words
abbrev pub within_limit : ℕ → ℕ → Result (Option ℕ) LineFault
within_limit before word = if nat_lt before 65536 then Ok (Some word) else Err TooManyWords

-- the word of an instruction that comes after so many others, if the line has one
abbrev pub code_word : (List ℕ → Option ℕ) → ℕ → List (List ℕ) → Result (Option ℕ) LineFault
code_word places before [] = Ok None
code_word places before (name ∷ operands) = and_then (named_word places (4 * before) name operands) (within_limit before)

-- ---- lines

-- the fault of a label, if it has one; whether an earlier line defines it is known
abbrev pub fault_of_label : (List ℕ → Bool) → Option (List ℕ) → Option LineFault
fault_of_label is_double None = None
fault_of_label is_double (Some label) =
    if not (is_label label) then Some BadLabel else if is_double label then Some DoubleLabel else None

-- a line defines the label
abbrev pub is_defined : List Line → List ℕ → Bool
is_defined lines label = list_any (defines label) lines

-- the word of a line, of all lines and those before it
abbrev pub line_word : List Line → List Line → Line → Result (Option ℕ) LineFault
line_word all before x = unless (fault_of_label (is_defined before) x.label) (code_word (place_in all) (instructions before) x.code)

-- the fault with the number of its line
abbrev pub on_line : {A : Type 0} → ℕ → Result A LineFault → Result A AsmFault
on_line number (Ok x) = Ok x
on_line number (Err fault) = Err (record { line = number; fault = fault })

-- the words of the lines that come after those before, or the first fault. Lines are numbered from 1
abbrev pub words_after : List Line → List Line → List Line → Result (List ℕ) AsmFault
words_after all before [] = Ok []
words_after all before (x ∷ rest) =
    and_then (on_line (length before + 1) (line_word all before x)) (λ word.
    and_then (words_after all (before ++ x ∷ []) rest) (λ words. Ok (cons_option word words)))

abbrev pub words_of : List Line → Result (List ℕ) AsmFault
words_of lines = words_after lines [] lines

-- the words of a source, or its first fault
abbrev pub source_of : List ℕ → Result (List ℕ) AsmFault
source_of text = words_of (map line_of (lines_of text))
