-- Where each format puts the fields of an instruction: what the private functions below `encode`
-- promise to it. The clauses of `encode` speak of `meaning_of` alone, so no reader need trust this file.
use Rattle.std.specs.Prelude.{◌≡◌, ℕ, ◌+◌, ◌*◌, ◌/◌, ◌%◌, ◌^◌, ◌<◌}
use Rattle.cv_isa.specs.declared.operation.Op.{Op}
use Rattle.cv_isa.specs.declared.operation.Op.TheVariants as op
use Rattle.cv_isa.specs.declared.operation.Format.{Format}
use Rattle.cv_isa.specs.declared.operation.Format.TheVariants.{Register, Immediate, Shift, Store, Branch, Upper, Jump, Environment}
use Rattle.cv_isa.specs.Bits.{bits}
use Rattle.cv_isa.specs.Instruction.{Instruction}

-- the bits that all words of an operation share
abbrev pub code_of : Op → ℕ
code_of op.Lui = 0x37
code_of op.Auipc = 0x17
code_of op.Jal = 0x6f
code_of op.Jalr = 0x67
code_of op.Beq = 0x63
code_of op.Bne = 0x1063
code_of op.Blt = 0x4063
code_of op.Bge = 0x5063
code_of op.Bltu = 0x6063
code_of op.Bgeu = 0x7063
code_of op.Lb = 0x3
code_of op.Lh = 0x1003
code_of op.Lw = 0x2003
code_of op.Lbu = 0x4003
code_of op.Lhu = 0x5003
code_of op.Sb = 0x23
code_of op.Sh = 0x1023
code_of op.Sw = 0x2023
code_of op.Addi = 0x13
code_of op.Slti = 0x2013
code_of op.Sltiu = 0x3013
code_of op.Xori = 0x4013
code_of op.Ori = 0x6013
code_of op.Andi = 0x7013
code_of op.Slli = 0x1013
code_of op.Srli = 0x5013
code_of op.Srai = 0x40005013
code_of op.Add = 0x33
code_of op.Sub = 0x40000033
code_of op.Sll = 0x1033
code_of op.Slt = 0x2033
code_of op.Sltu = 0x3033
code_of op.Xor = 0x4033
code_of op.Srl = 0x5033
code_of op.Sra = 0x40005033
code_of op.Or = 0x6033
code_of op.And = 0x7033
code_of op.Fence = 0xf
code_of op.Ecall = 0x73
code_of op.Ebreak = 0x100073

-- the register fields in their places
abbrev pub rd_placed : Instruction → ℕ
rd_placed i = i.rd * 2 ^ 7

abbrev pub rs1_placed : Instruction → ℕ
rs1_placed i = i.rs1 * 2 ^ 15

abbrev pub rs2_placed : Instruction → ℕ
rs2_placed i = i.rs2 * 2 ^ 20

-- the offsets of branches and jumps in their places
abbrev pub branch_placed : ℕ → ℕ
branch_placed imm = bits imm 11 1 * 2 ^ 7 + bits imm 1 4 * 2 ^ 8 + bits imm 5 6 * 2 ^ 25 + bits imm 12 1 * 2 ^ 31

abbrev pub jump_placed : ℕ → ℕ
jump_placed imm = bits imm 12 8 * 2 ^ 12 + bits imm 11 1 * 2 ^ 20 + bits imm 1 10 * 2 ^ 21 + bits imm 20 1 * 2 ^ 31

-- the word of a format with these shared bits and these fields
abbrev pub placed : Format → ℕ → Instruction → ℕ
placed Register code i = code + rd_placed i + rs1_placed i + rs2_placed i
placed Immediate code i = code + rd_placed i + rs1_placed i + bits i.imm 0 12 * 2 ^ 20
placed Shift code i = code + rd_placed i + rs1_placed i + bits i.imm 0 5 * 2 ^ 20
placed Store code i = code + rs1_placed i + rs2_placed i + bits i.imm 0 5 * 2 ^ 7 + bits i.imm 5 7 * 2 ^ 25
placed Branch code i = code + rs1_placed i + rs2_placed i + branch_placed i.imm
placed Upper code i = code + rd_placed i + bits i.imm 12 20 * 2 ^ 12
placed Jump code i = code + rd_placed i + jump_placed i.imm
placed Environment code i = code

-- the shared bits lie outside the fields of the format
abbrev pub IsCode : Format → ℕ → Type 0
IsCode Register code = (code < 2 ^ 31) × (code / 2 ^ 7 % 2 ^ 5 ≡ 0) × (code / 2 ^ 15 % 2 ^ 10 ≡ 0)
IsCode Shift code = (code < 2 ^ 31) × (code / 2 ^ 7 % 2 ^ 5 ≡ 0) × (code / 2 ^ 15 % 2 ^ 10 ≡ 0)
IsCode Immediate code = (code < 2 ^ 15) × (code / 2 ^ 7 % 2 ^ 5 ≡ 0)
IsCode Store code = (code < 2 ^ 15) × (code / 2 ^ 7 % 2 ^ 5 ≡ 0)
IsCode Branch code = (code < 2 ^ 15) × (code / 2 ^ 7 % 2 ^ 5 ≡ 0)
IsCode Upper code = code < 2 ^ 7
IsCode Jump code = code < 2 ^ 7
IsCode Environment code = code < 2 ^ 32
