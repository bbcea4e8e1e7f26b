-- The name of each operation in assembly language, and its word: each name stands once, for the
-- assembler and for the listing.
-- RISC-V Unprivileged ISA, instruction listing "RV32I Base Instruction Set".
use Rattle.std.specs.Prelude.{ℕ, List, Option, map, codes}
use Rattle.std.specs.List.{find}
use Rattle.std.specs.Str.{bytes_eq}
use Rattle.cv_isa.specs.declared.operation.Op.{Op}
use Rattle.cv_isa.specs.declared.operation.Op.TheVariants as op
use Rattle.cv_isa.specs.Instruction.{Instruction, format_of}
use Rattle.cv_isa.specs.DecodeTable.{Row, rows}
use Rattle.cv_isa.specs.Encoding.{code_of, placed}

-- the name of an operation, in lower case
abbrev pub name_of : Op → List ℕ
name_of op.Lui = codes "lui"
name_of op.Auipc = codes "auipc"
name_of op.Jal = codes "jal"
name_of op.Jalr = codes "jalr"
name_of op.Beq = codes "beq"
name_of op.Bne = codes "bne"
name_of op.Blt = codes "blt"
name_of op.Bge = codes "bge"
name_of op.Bltu = codes "bltu"
name_of op.Bgeu = codes "bgeu"
name_of op.Lb = codes "lb"
name_of op.Lh = codes "lh"
name_of op.Lw = codes "lw"
name_of op.Lbu = codes "lbu"
name_of op.Lhu = codes "lhu"
name_of op.Sb = codes "sb"
name_of op.Sh = codes "sh"
name_of op.Sw = codes "sw"
name_of op.Addi = codes "addi"
name_of op.Slti = codes "slti"
name_of op.Sltiu = codes "sltiu"
name_of op.Xori = codes "xori"
name_of op.Ori = codes "ori"
name_of op.Andi = codes "andi"
name_of op.Slli = codes "slli"
name_of op.Srli = codes "srli"
name_of op.Srai = codes "srai"
name_of op.Add = codes "add"
name_of op.Sub = codes "sub"
name_of op.Sll = codes "sll"
name_of op.Slt = codes "slt"
name_of op.Sltu = codes "sltu"
name_of op.Xor = codes "xor"
name_of op.Srl = codes "srl"
name_of op.Sra = codes "sra"
name_of op.Or = codes "or"
name_of op.And = codes "and"
name_of op.Fence = codes "fence"
name_of op.Ecall = codes "ecall"
name_of op.Ebreak = codes "ebreak"

-- the operations of the decode table, in its order
abbrev pub operations : List Op
operations = map (λ (r : Row). r.op) rows

-- the operation that has this name
unfoldable pub op_named : List ℕ → Option Op
op_named name = find (λ (o : Op). bytes_eq name (name_of o)) operations

-- The word of an instruction: its meaning is that instruction, and no other word's is
-- (`words_of_instructions`).
abbrev pub word_of : Instruction → ℕ
word_of i = placed (format_of i.op) (code_of i.op) i
