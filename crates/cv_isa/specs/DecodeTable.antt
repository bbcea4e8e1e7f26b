-- Which words are RV32I instructions, and what each of them says.
-- RISC-V Unprivileged ISA, instruction listing "RV32I Base Instruction Set", with the fields of
-- "RV32I Base Integer Instruction Set", 2.2 and 2.3.
use Rattle.std.specs.Prelude.{ℕ, ◌+◌, ◌*◌, ◌^◌, Bool, List, [], ◌∷◌, Option, ◌==◌, bit_and}
use Rattle.std.specs.List.{find}
use Rattle.std.specs.Option.{option_map}
use Rattle.cv_isa.specs.declared.operation.Op.{Op}
use Rattle.cv_isa.specs.declared.operation.Op.TheVariants as op
use Rattle.cv_isa.specs.declared.operation.Format.{Format}
use Rattle.cv_isa.specs.declared.operation.Format.TheVariants.{Register, Immediate, Shift, Store, Branch, Upper, Jump, Environment}
use Rattle.cv_isa.specs.Bits.{bits, sign_extend}
use Rattle.cv_isa.specs.Instruction.{Instruction}

-- a line of the listing: words that have `code` at the bits of `mask` are `op`
pub record Row : Type 0 where
  pub op : Op
  pub format : Format
  pub mask : ℕ
  pub code : ℕ

abbrev pub row : Op → Format → ℕ → ℕ → Row
row operation format mask code = record { op = operation; format = format; mask = mask; code = code }

abbrev pub rows : List Row
rows =
    row op.Lui Upper 0x7f 0x37 ∷
    row op.Auipc Upper 0x7f 0x17 ∷
    row op.Jal Jump 0x7f 0x6f ∷
    row op.Jalr Immediate 0x707f 0x67 ∷
    row op.Beq Branch 0x707f 0x63 ∷
    row op.Bne Branch 0x707f 0x1063 ∷
    row op.Blt Branch 0x707f 0x4063 ∷
    row op.Bge Branch 0x707f 0x5063 ∷
    row op.Bltu Branch 0x707f 0x6063 ∷
    row op.Bgeu Branch 0x707f 0x7063 ∷
    row op.Lb Immediate 0x707f 0x3 ∷
    row op.Lh Immediate 0x707f 0x1003 ∷
    row op.Lw Immediate 0x707f 0x2003 ∷
    row op.Lbu Immediate 0x707f 0x4003 ∷
    row op.Lhu Immediate 0x707f 0x5003 ∷
    row op.Sb Store 0x707f 0x23 ∷
    row op.Sh Store 0x707f 0x1023 ∷
    row op.Sw Store 0x707f 0x2023 ∷
    row op.Addi Immediate 0x707f 0x13 ∷
    row op.Slti Immediate 0x707f 0x2013 ∷
    row op.Sltiu Immediate 0x707f 0x3013 ∷
    row op.Xori Immediate 0x707f 0x4013 ∷
    row op.Ori Immediate 0x707f 0x6013 ∷
    row op.Andi Immediate 0x707f 0x7013 ∷
    row op.Slli Shift 0xfe00707f 0x1013 ∷
    row op.Srli Shift 0xfe00707f 0x5013 ∷
    row op.Srai Shift 0xfe00707f 0x40005013 ∷
    row op.Add Register 0xfe00707f 0x33 ∷
    row op.Sub Register 0xfe00707f 0x40000033 ∷
    row op.Sll Register 0xfe00707f 0x1033 ∷
    row op.Slt Register 0xfe00707f 0x2033 ∷
    row op.Sltu Register 0xfe00707f 0x3033 ∷
    row op.Xor Register 0xfe00707f 0x4033 ∷
    row op.Srl Register 0xfe00707f 0x5033 ∷
    row op.Sra Register 0xfe00707f 0x40005033 ∷
    row op.Or Register 0xfe00707f 0x6033 ∷
    row op.And Register 0xfe00707f 0x7033 ∷
    row op.Fence Immediate 0x707f 0xf ∷
    row op.Ecall Environment 0xffffffff 0x73 ∷
    row op.Ebreak Environment 0xffffffff 0x100073 ∷ []

abbrev pub fits : ℕ → Row → Bool
fits word r = bit_and word r.mask == r.code

-- the row that the word fits; there is one at most
unfoldable pub row_of : ℕ → Option Row
row_of word = find (fits word) rows

-- the register fields of a word
abbrev pub rd_of : ℕ → ℕ
rd_of word = bits word 7 5

abbrev pub rs1_of : ℕ → ℕ
rs1_of word = bits word 15 5

abbrev pub rs2_of : ℕ → ℕ
rs2_of word = bits word 20 5

-- the immediate of a word of each format, as a 32-bit number
abbrev pub immediate_of : Format → ℕ → ℕ
immediate_of Register word = 0
immediate_of Immediate word = sign_extend 12 (bits word 20 12)
immediate_of Shift word = bits word 20 5
immediate_of Store word = sign_extend 12 (bits word 25 7 * 2 ^ 5 + bits word 7 5)
immediate_of Branch word = sign_extend 13 (bits word 31 1 * 2 ^ 12 + bits word 7 1 * 2 ^ 11 + bits word 25 6 * 2 ^ 5 + bits word 8 4 * 2)
immediate_of Upper word = bits word 12 20 * 2 ^ 12
immediate_of Jump word = sign_extend 21 (bits word 31 1 * 2 ^ 20 + bits word 12 8 * 2 ^ 12 + bits word 20 1 * 2 ^ 11 + bits word 21 10 * 2)
immediate_of Environment word = 0

abbrev pub with_fields : Op → ℕ → ℕ → ℕ → ℕ → Instruction
with_fields operation rd rs1 rs2 imm = record { op = operation; rd = rd; rs1 = rs1; rs2 = rs2; imm = imm }

-- the instruction `operation` with the fields that its format takes from the word
abbrev pub instruction_at : Format → Op → ℕ → Instruction
instruction_at Register operation word = with_fields operation (rd_of word) (rs1_of word) (rs2_of word) 0
instruction_at Immediate operation word = with_fields operation (rd_of word) (rs1_of word) 0 (immediate_of Immediate word)
instruction_at Shift operation word = with_fields operation (rd_of word) (rs1_of word) 0 (immediate_of Shift word)
instruction_at Store operation word = with_fields operation 0 (rs1_of word) (rs2_of word) (immediate_of Store word)
instruction_at Branch operation word = with_fields operation 0 (rs1_of word) (rs2_of word) (immediate_of Branch word)
instruction_at Upper operation word = with_fields operation (rd_of word) 0 0 (immediate_of Upper word)
instruction_at Jump operation word = with_fields operation (rd_of word) 0 0 (immediate_of Jump word)
instruction_at Environment operation word = with_fields operation 0 0 0 0

-- the instruction that the word is, or None where the word is no RV32I instruction
abbrev pub meaning_of : ℕ → Option Instruction
meaning_of word = option_map (λ (r : Row). instruction_at r.format r.op word) (row_of word)
