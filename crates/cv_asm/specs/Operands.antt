-- How an operand is read (docs/FORMATS.md, "Assembly"). Values are 32-bit numbers, a negative one
-- in two's complement.
use Rattle.std.specs.Prelude.{ℕ, ◌+◌, ◌*◌, ◌-◌, ◌%◌, ◌^◌, Bool, true, false, ◌==◌, ◌&&◌, nat_lt, nat_le, if◌then◌else◌, List, [], ◌∷◌, length, Option, None, Result, Ok, Err}
use Rattle.std.specs.List.{list_all}
use Rattle.std.specs.Option.{ok_or, option_map, option_map_or}
use Rattle.std.specs.Char.{is_ascii_digit, is_digit}
use Rattle.std.specs.Str.Parse.{digits_value}
use Rattle.cv_asm.specs.declared.fault.LineFault.{LineFault}
use Rattle.cv_asm.specs.declared.fault.LineFault.TheVariants.{BadOperand, OutOfRange, UnknownLabel, OperandCount}
use Rattle.cv_asm.specs.declared.numbers.Number.{Number}
use Rattle.cv_asm.specs.declared.shapes.Kind.{Kind}
use Rattle.cv_asm.specs.declared.shapes.Kind.TheVariants as kind
use Rattle.cv_asm.specs.Lines.{is_label}
use Rattle.cv_asm.specs.Results.{and_then, only_where}

-- ---- registers

abbrev pub is_x : ℕ → Bool
is_x c = c == 120

-- the number of one digit, and of two
abbrev pub one_digit : ℕ → ℕ
one_digit a = a - 48

abbrev pub two_digits : ℕ → ℕ → ℕ
two_digits a b = 10 * (a - 48) + (b - 48)

-- `x0` to `x31`, without leading zeros
abbrev pub register_in : List ℕ → Option ℕ
register_in (x ∷ a ∷ []) = only_where (is_x x && is_ascii_digit a) (one_digit a)
register_in (x ∷ a ∷ b ∷ []) = only_where (is_x x && (is_ascii_digit a && (is_ascii_digit b && (nat_lt 48 a && nat_lt (two_digits a b) 32)))) (two_digits a b)
register_in _ = None

-- ---- numbers

abbrev pub number : Bool → ℕ → Number
number negative size = record { negative = negative; size = size }

-- one digit at least of the base, and nothing else; letters of either case
abbrev pub digits_in : ℕ → List ℕ → Option ℕ
digits_in base ds = only_where (nat_lt 0 (length ds) && list_all (λ c. is_digit c base) ds) (digits_value base ds)

-- hexadecimal digits after `0x`, or decimal digits
abbrev pub size_in : List ℕ → Option ℕ
size_in (a ∷ b ∷ rest) = if (a == 48) && (b == 120) then digits_in 16 rest else digits_in 10 (a ∷ b ∷ rest)
size_in s = digits_in 10 s

-- `-` and decimal digits, or a size
abbrev pub number_in : List ℕ → Option Number
number_in [] = None
number_in (a ∷ rest) = if a == 45 then option_map (number true) (digits_in 10 rest) else option_map (number false) (size_in (a ∷ rest))

-- from −low to high
abbrev pub is_within : ℕ → ℕ → Number → Bool
is_within low high n = if n.negative then nat_le n.size low else nat_le n.size high

abbrev pub is_even : Number → Bool
is_even n = n.size % 2 == 0

-- the 32-bit number of one from −2^32 to 2^32 − 1
abbrev pub value_of : Number → ℕ
value_of n = if n.negative then (2 ^ 32 - n.size) % 2 ^ 32 else n.size

-- ---- targets

-- how far it is from one place to another
abbrev pub offset : ℕ → ℕ → Number
offset from to = if nat_le from to then number false (to - from) else number true (from - to)

-- the offset of a label from the instruction's place
abbrev pub label_offset : (List ℕ → Option ℕ) → ℕ → ℕ → List ℕ → Result Number LineFault
label_offset places place k s =
    if is_label s then option_map_or (λ to. Ok (offset place to)) (places s) (Err (UnknownLabel k))
    else Err (BadOperand k)

-- a target is a number, the offset, or a label
abbrev pub target_in : (List ℕ → Option ℕ) → ℕ → ℕ → List ℕ → Result Number LineFault
target_in places place k s = option_map_or Ok (number_in s) (label_offset places place k s)

-- ---- operands

abbrev pub value_where : Bool → ℕ → Number → Result ℕ LineFault
value_where fits k n = if fits then Ok (value_of n) else Err (OutOfRange k)

-- the value of the k-th operand of an instruction that stands at `place`, or its fault
unfoldable pub operand_in : (List ℕ → Option ℕ) → ℕ → ℕ → Kind → List ℕ → Result ℕ LineFault
operand_in places place k kind.Register s = ok_or (register_in s) (BadOperand k)
operand_in places place k (kind.Number low high) s = and_then (ok_or (number_in s) (BadOperand k)) (λ n. value_where (is_within low high n) k n)
operand_in places place k (kind.Target low high) s = and_then (target_in places place k s) (λ n. value_where (is_within low high n && is_even n) k n)

-- the values of the operands from the k-th on
abbrev pub operands_from : (List ℕ → Option ℕ) → ℕ → ℕ → List Kind → List (List ℕ) → Result (List ℕ) LineFault
operands_from places place k [] [] = Ok []
operands_from places place k (kind ∷ kinds) (s ∷ ss) =
    and_then (operand_in places place k kind s) (λ v. and_then (operands_from places place (k + 1) kinds ss) (λ vs. Ok (v ∷ vs)))
operands_from places place k _ _ = Err OperandCount

-- the values of the operands: first it is told whether there are as many as there have to be
unfoldable pub operands_in : (List ℕ → Option ℕ) → ℕ → List Kind → List (List ℕ) → Result (List ℕ) LineFault
operands_in places place kinds ss = if length ss == length kinds then operands_from places place 1 kinds ss else Err OperandCount
