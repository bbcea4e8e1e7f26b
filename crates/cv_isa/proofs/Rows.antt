-- The decode table by mask and by opcode, funct3 and funct7: both readings are one.
use Rattle.std.proofs.Common.{◌≡◌, ℕ, ◌+◌, ◌*◌, ◌/◌, ◌%◌, ◌^◌, ◌<◌, Bool, true, false, cond, Option, Some, List, [], ◌∷◌, ◌==◌, ◌&&◌, if◌then◌else◌, refl, ap, ◌∙◌, bit_and, arith, rules}
use Rattle.std.specs.List.{AllByRecursion, find}
use Rattle.std.specs.Option.{option_map}
use Rattle.std.proofs.lemmas.Nat.{and_mask, and_block}
use Rattle.std.proofs.lemmas.Bool.Decides.{nat_tests}
use Rattle.cv_isa.specs.Bits.{bits}
use Rattle.cv_isa.specs.declared.operation.Op.{Op}
use Rattle.cv_isa.specs.declared.operation.Format.{Format}
use Rattle.cv_isa.specs.declared.operation.Format.TheVariants.{Register, Immediate, Shift, Store, Branch, Upper, Jump, Environment}
use Rattle.cv_isa.specs.Instruction.{Instruction, format_of}
use Rattle.cv_isa.specs.DecodeTable.{Row, rows, fits, row_of, instruction_at, meaning_of}
use Rattle.cv_isa.specs.ByFields.{agrees, first_of, operation_at}
use Rattle.cv_isa.specs.Encoding.{code_of, IsCode}

-- `word` at each of the four masks

and_low : (w : ℕ) → bit_and w 0x7f ≡ bits w 0 7
and_low w = and_mask w 7 ∙ omega arith

and_middle : (w : ℕ) → bit_and w 0x707f ≡ bits w 12 3 * 2 ^ 12 + bits w 0 7
and_middle w =
    let parts : w ≡ (w / 2 ^ 12) * 2 ^ 12 + w % 2 ^ 12 = omega arith in
    ap (λ n. bit_and n 0x707f) parts
    ∙ and_block 12 (w / 2 ^ 12) 7 (w % 2 ^ 12) 0x7f (omega arith) (omega arith)
    ∙ rw (and_mask (w / 2 ^ 12) 3, and_mask (w % 2 ^ 12) 7) (omega arith)

and_high : (w : ℕ) → bit_and w 0xfe00707f ≡ bits w 25 7 * 2 ^ 25 + (bits w 12 3 * 2 ^ 12 + bits w 0 7)
and_high w =
    let parts : w ≡ (w / 2 ^ 25) * 2 ^ 25 + w % 2 ^ 25 = omega arith in
    ap (λ n. bit_and n 0xfe00707f) parts
    ∙ and_block 25 (w / 2 ^ 25) 0x7f (w % 2 ^ 25) 0x707f (omega arith) (omega arith)
    ∙ rw (and_mask (w / 2 ^ 25) 7, and_middle (w % 2 ^ 25)) (omega arith)

and_whole : (w : ℕ) → w < 2 ^ 32 → bit_and w 0xffffffff ≡ w
and_whole w small = and_mask w 32 ∙ omega arith

-- a sum of fields against a code, as a test of each field

two_tests : (x y code : ℕ) → x < 2 ^ 7 → code / 2 ^ 7 % 2 ^ 5 ≡ 0 → (y * 2 ^ 12 + x == code) ≡ ((x == code % 2 ^ 7) && (y == code / 2 ^ 12))
two_tests x y code small gap = grind (arith, nat_tests)

three_tests : (x y z code : ℕ) → x < 2 ^ 7 → y < 2 ^ 3 → code / 2 ^ 7 % 2 ^ 5 ≡ 0 → code / 2 ^ 15 % 2 ^ 10 ≡ 0 → (z * 2 ^ 25 + (y * 2 ^ 12 + x) == code) ≡ ((x == code % 2 ^ 7) && (y == code / 2 ^ 12 % 2 ^ 3) && (z == code / 2 ^ 25))
three_tests x y z code small_x small_y gap_low gap_high = grind (arith, nat_tests)

whole_test : (w code : ℕ) → (w == code) ≡ ((bits w 0 7 == code % 2 ^ 7) && (w == code))
whole_test w code = grind (arith, nat_tests)

-- the mask is one of four, and the code has no bit outside it
abbrev is_plain : Row → Bool
is_plain r =
    if r.mask == 0x7f then true
    else if r.mask == 0x707f then r.code / 2 ^ 7 % 2 ^ 5 == 0
    else if r.mask == 0xfe00707f then (r.code / 2 ^ 7 % 2 ^ 5 == 0) && (r.code / 2 ^ 15 % 2 ^ 10 == 0)
    else r.mask == 0xffffffff

-- the mask of each format's rows
abbrev pub mask_of : Format → ℕ
mask_of Register = 0xfe00707f
mask_of Immediate = 0x707f
mask_of Shift = 0xfe00707f
mask_of Store = 0x707f
mask_of Branch = 0x707f
mask_of Upper = 0x7f
mask_of Jump = 0x7f
mask_of Environment = 0xffffffff

pub record IsRow (r : Row) : Type 0 where
  pub plain : is_plain r ≡ true
  pub format : r.format ≡ format_of r.op
  pub mask : r.mask ≡ mask_of (format_of r.op)
  pub code : r.code ≡ code_of r.op
  pub shape : IsCode (format_of r.op) (code_of r.op)

pub all_rows : AllByRecursion IsRow rows
all_rows = search rules

pub fits_is : (w : ℕ) → w < 2 ^ 32 → (r : Row) → is_plain r ≡ true → fits w r ≡ agrees (bits w 0 7) (bits w 12 3) (bits w 25 7) w r
fits_is w small r plain =
    grind (arith, nat_tests, and_low w, and_middle w, and_high w, and_whole w small, two_tests (bits w 0 7) (bits w 12 3) r.code (omega arith), three_tests (bits w 0 7) (bits w 12 3) (bits w 25 7) r.code (omega arith) (omega arith), whole_test w r.code)

-- the meaning of a word, from the operation that its fields name
abbrev pub meaning_from : ℕ → Option Op → Option Instruction
meaning_from w o = option_map (λ (operation : Op). instruction_at (format_of operation) operation w) o

abbrev meaning_in : ℕ → Option Row → Option Instruction
meaning_in w found = option_map (λ (r : Row). instruction_at r.format r.op w) found

one_row : (w : ℕ) (r : Row) (passes : Bool) (found : Option Row) (operation : Option Op) → r.format ≡ format_of r.op → meaning_in w found ≡ meaning_from w operation → meaning_in w (cond passes (Some r) found) ≡ meaning_from w (cond passes (Some r.op) operation)
one_row w r true found operation same later = ap (λ (f : Format). Some (instruction_at f r.op w)) same
one_row w r false found operation same later = later

-- the operation of the first of these rows that the fields of w agree with
abbrev pub first_at : ℕ → List Row → Option Op
first_at w rs = first_of (agrees (bits w 0 7) (bits w 12 3) (bits w 25 7) w) rs

all_same : (w : ℕ) → w < 2 ^ 32 → (rs : List Row) → AllByRecursion IsRow rs → meaning_in w (find (fits w) rs) ≡ meaning_from w (first_at w rs)
all_same w small [] all = refl
all_same w small (r ∷ rs) all = rw (fits_is w small r all.0.plain) (one_row w r (agrees (bits w 0 7) (bits w 12 3) (bits w 25 7) w r) (find (fits w) rs) (first_at w rs) all.0.format (all_same w small rs all.1))

pub meaning_of-by_fields : (w : ℕ) → w < 2 ^ 32 → meaning_of w ≡ meaning_from w (operation_at (bits w 0 7) (bits w 12 3) (bits w 25 7) w)
unfolding row_of
meaning_of-by_fields w small = all_same w small rows all_rows
