-- The fields of an instruction, put into a word and taken from it.
use Rattle.std.proofs.Common.{◌≡◌, ℕ, ◌/◌, ◌%◌, ◌^◌, ◌<◌, Bool, true, Some, refl, ap, ◌∙◌, arith}
use Rattle.std.proofs.lemmas.Bool.Decides.{nat_tests}
use Rattle.cv_isa.specs.declared.operation.Op.{Op}
use Rattle.cv_isa.specs.declared.operation.Op.TheVariants as op
use Rattle.cv_isa.specs.declared.operation.Format.{Format}
use Rattle.cv_isa.specs.declared.operation.Format.TheVariants.{Register, Shift, Upper, Jump, Environment}
use Rattle.cv_isa.specs.Bits.{bits}
use Rattle.cv_isa.specs.Instruction.{Instruction, format_of, IsOfFormat}
use Rattle.cv_isa.specs.DecodeTable.{row, instruction_at}
use Rattle.cv_isa.specs.ByFields.{agrees, operation_at}
use Rattle.cv_isa.specs.Encoding.{code_of, placed, IsCode}
use Rattle.cv_isa.proofs.Rows.{mask_of}

-- ---- from a word: what its fields put together give

-- the word passes the tests of a row of this format and code
abbrev pub agrees_at : Format → ℕ → ℕ → Op → Bool
agrees_at f code w o = agrees (bits w 0 7) (bits w 12 3) (bits w 25 7) w (row o f (mask_of f) code)

pub replaced : (f : Format) (code w : ℕ) (o : Op) → IsCode f code → w < 2 ^ 32 → agrees_at f code w o ≡ true → placed f code (instruction_at f o w) ≡ w
replaced Register code w o shape small passes = grind (arith, nat_tests)
replaced _ code w o shape small passes = grind (arith, nat_tests)

-- ---- from an instruction: what the word of its fields holds

-- the registers and the immediate are in range
pub record InRange (i : Instruction) : Type 0 where
  pub rd : i.rd < 32
  pub rs1 : i.rs1 < 32
  pub rs2 : i.rs2 < 32
  pub imm : i.imm < 2 ^ 32

-- funct3, funct7 and the word itself where the format's code fixes them
abbrev pub funct3_in : Format → ℕ → ℕ → ℕ
funct3_in Upper code other = other
funct3_in Jump code other = other
funct3_in _ code other = code / 2 ^ 12 % 2 ^ 3

abbrev pub funct7_in : Format → ℕ → ℕ → ℕ
funct7_in Register code other = code / 2 ^ 25
funct7_in Shift code other = code / 2 ^ 25
funct7_in _ code other = other

abbrev pub word_in : Format → ℕ → ℕ → ℕ
word_in Environment code other = code
word_in _ code other = other

pub found : (o : Op) (a b w : ℕ) → operation_at (code_of o % 2 ^ 7) (funct3_in (format_of o) (code_of o) a) (funct7_in (format_of o) (code_of o) b) (word_in (format_of o) (code_of o) w) ≡ Some o
found op.Lui a b w = refl
found _ a b w = refl

-- the fields of w are those of the code
pub record HasCode (f : Format) (code w : ℕ) : Type 0 where
  pub opcode : bits w 0 7 ≡ code % 2 ^ 7
  pub funct3 : bits w 12 3 ≡ funct3_in f code (bits w 12 3)
  pub funct7 : bits w 25 7 ≡ funct7_in f code (bits w 25 7)
  pub whole : w ≡ word_in f code w

pub opcode_placed : (f : Format) (code : ℕ) (i : Instruction) → IsCode f code → InRange i → bits (placed f code i) 0 7 ≡ code % 2 ^ 7
opcode_placed Register code i shape within = grind (arith)
opcode_placed _ code i shape within = grind (arith)

funct3_placed : (f : Format) (code : ℕ) (i : Instruction) → IsCode f code → InRange i → bits (placed f code i) 12 3 ≡ funct3_in f code (bits (placed f code i) 12 3)
funct3_placed Register code i shape within = grind (arith)
funct3_placed _ code i shape within = grind (arith)

funct7_placed : (f : Format) (code : ℕ) (i : Instruction) → IsCode f code → InRange i → IsOfFormat f i → bits (placed f code i) 25 7 ≡ funct7_in f code (bits (placed f code i) 25 7)
funct7_placed Register code i shape within fits = grind (arith)
funct7_placed _ code i shape within fits = grind (arith)

whole_placed : (f : Format) (code : ℕ) (i : Instruction) → placed f code i ≡ word_in f code (placed f code i)
whole_placed Register code i = refl
whole_placed _ code i = refl

pub has_code : (f : Format) (code : ℕ) (i : Instruction) → IsCode f code → InRange i → IsOfFormat f i → HasCode f code (placed f code i)
has_code f code i shape within fits =
    record {
      opcode = opcode_placed f code i shape within;
      funct3 = funct3_placed f code i shape within;
      funct7 = funct7_placed f code i shape within fits;
      whole = whole_placed f code i;
    }

pub placed_small : (f : Format) (code : ℕ) (i : Instruction) → IsCode f code → InRange i → placed f code i < 2 ^ 32
placed_small Register code i shape within = grind (arith)
placed_small _ code i shape within = grind (arith)

pub operation_placed : (o : Op) (w : ℕ) → HasCode (format_of o) (code_of o) w → operation_at (bits w 0 7) (bits w 12 3) (bits w 25 7) w ≡ Some o
operation_placed o w h =
    ap (λ n. operation_at n (bits w 12 3) (bits w 25 7) w) h.opcode
    ∙ ap (λ n. operation_at (code_of o % 2 ^ 7) n (bits w 25 7) w) h.funct3
    ∙ ap (λ n. operation_at (code_of o % 2 ^ 7) (funct3_in (format_of o) (code_of o) (bits w 12 3)) n w) h.funct7
    ∙ ap (λ n. operation_at (code_of o % 2 ^ 7) (funct3_in (format_of o) (code_of o) (bits w 12 3)) (funct7_in (format_of o) (code_of o) (bits w 25 7)) n) h.whole
    ∙ found o (bits w 12 3) (bits w 25 7) w

-- the fields come back

pub kept : (f : Format) (code : ℕ) (i : Instruction) → IsCode f code → InRange i → IsOfFormat f i → instruction_at f i.op (placed f code i) ≡ i
kept Register code i shape within fits = grind (arith, nat_tests)
kept _ code i shape within fits = grind (arith, nat_tests)
