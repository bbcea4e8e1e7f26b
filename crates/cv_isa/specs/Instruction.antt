-- An RV32I instruction and its fields.
-- RISC-V Unprivileged ISA, "RV32I Base Integer Instruction Set", 2.2 "Base Instruction Formats",
-- 2.3 "Immediate Encoding Variants", and 2.4 to 2.8 for the format of each instruction.
use Rattle.std.specs.Prelude.{◌≡◌, ℕ, ◌%◌, ◌^◌, ◌<◌}
use Rattle.cv_isa.specs.declared.operation.Op.{Op}
use Rattle.cv_isa.specs.declared.operation.Op.TheVariants as op
use Rattle.cv_isa.specs.declared.operation.Format.{Format}
use Rattle.cv_isa.specs.declared.operation.Format.TheVariants.{Register, Immediate, Shift, Store, Branch, Upper, Jump, Environment}
use Rattle.cv_isa.specs.Bits.{sign_extend}

-- an instruction by its fields; a field that its format lacks is 0
pub record Instruction : Type 0 where
  pub op : Op
  pub rd : ℕ
  pub rs1 : ℕ
  pub rs2 : ℕ
  pub imm : ℕ

-- the format of each instruction's word
abbrev pub format_of : Op → Format
format_of op.Lui = Upper
format_of op.Auipc = Upper
format_of op.Jal = Jump
format_of op.Jalr = Immediate
format_of op.Beq = Branch
format_of op.Bne = Branch
format_of op.Blt = Branch
format_of op.Bge = Branch
format_of op.Bltu = Branch
format_of op.Bgeu = Branch
format_of op.Lb = Immediate
format_of op.Lh = Immediate
format_of op.Lw = Immediate
format_of op.Lbu = Immediate
format_of op.Lhu = Immediate
format_of op.Sb = Store
format_of op.Sh = Store
format_of op.Sw = Store
format_of op.Addi = Immediate
format_of op.Slti = Immediate
format_of op.Sltiu = Immediate
format_of op.Xori = Immediate
format_of op.Ori = Immediate
format_of op.Andi = Immediate
format_of op.Slli = Shift
format_of op.Srli = Shift
format_of op.Srai = Shift
format_of op.Add = Register
format_of op.Sub = Register
format_of op.Sll = Register
format_of op.Slt = Register
format_of op.Sltu = Register
format_of op.Xor = Register
format_of op.Srl = Register
format_of op.Sra = Register
format_of op.Or = Register
format_of op.And = Register
format_of op.Fence = Immediate
format_of op.Ecall = Environment
format_of op.Ebreak = Environment

-- `value` is what sign extension makes of its low `count` bits
abbrev pub IsExtended : ℕ → ℕ → Type 0
IsExtended count value = sign_extend count (value % 2 ^ count) ≡ value

-- the immediate is one that the format can hold, and the fields that the format lacks are 0
abbrev pub IsOfFormat : Format → Instruction → Type 0
IsOfFormat Register i = i.imm ≡ 0
IsOfFormat Immediate i = (i.rs2 ≡ 0) × IsExtended 12 i.imm
IsOfFormat Shift i = (i.rs2 ≡ 0) × (i.imm < 32)
IsOfFormat Store i = (i.rd ≡ 0) × IsExtended 12 i.imm
IsOfFormat Branch i = (i.rd ≡ 0) × IsExtended 13 i.imm × (i.imm % 2 ≡ 0)
IsOfFormat Upper i = (i.rs1 ≡ 0) × (i.rs2 ≡ 0) × (i.imm % 2 ^ 12 ≡ 0)
IsOfFormat Jump i = (i.rs1 ≡ 0) × (i.rs2 ≡ 0) × IsExtended 21 i.imm × (i.imm % 2 ≡ 0)
IsOfFormat Environment i = (i.rd ≡ 0) × (i.rs1 ≡ 0) × (i.rs2 ≡ 0) × (i.imm ≡ 0)

-- the fields are in range and fit the instruction's format
pub record IsInstruction (i : Instruction) : Type 0 where
  pub rd_in_range : i.rd < 32
  pub rs1_in_range : i.rs1 < 32
  pub rs2_in_range : i.rs2 < 32
  pub imm_in_range : i.imm < 2 ^ 32
  pub of_format : IsOfFormat (format_of i.op) i
