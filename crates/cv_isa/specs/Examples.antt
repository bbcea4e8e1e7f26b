-- Words and what they mean: one word at least for each operation, with the text that assembles to it,
-- and words that RV32I lacks. The words come from LLVM's assembler (llvm-mc, triple riscv32).
use Rattle.std.specs.Prelude.{ℕ, List, [], ◌∷◌}
use Rattle.cv_isa.specs.declared.operation.Op.TheVariants as op
use Rattle.cv_isa.specs.Instruction.{Instruction}
use Rattle.cv_isa.specs.DecodeTable.{with_fields}

pub record Example : Type 0 where
  pub word : ℕ
  pub meaning : Instruction

abbrev pub means : ℕ → Instruction → Example
means word meaning = record { word = word; meaning = meaning }

-- rd, rs1, rs2 and the immediate after each operation
abbrev pub examples : List Example
examples =
    -- lui x7, 0xABCDE
    means 0xabcde3b7 (with_fields op.Lui 7 0 0 0xabcde000) ∷
    -- auipc x31, 0xFFFFF
    means 0xffffff97 (with_fields op.Auipc 31 0 0 0xfffff000) ∷
    -- jal x1, -4
    means 0xffdff0ef (with_fields op.Jal 1 0 0 0xfffffffc) ∷
    -- jal x5, 0xA5552
    means 0x552a52ef (with_fields op.Jal 5 0 0 0xa5552) ∷
    -- jalr x1, -2048(x6)
    means 0x800300e7 (with_fields op.Jalr 1 6 0 0xfffff800) ∷
    -- beq x3, x4, -4096
    means 0x80418063 (with_fields op.Beq 0 3 4 0xfffff000) ∷
    -- bne x5, x6, 2730
    means 0x2a6295e3 (with_fields op.Bne 0 5 6 2730) ∷
    -- blt x7, x8, 1364
    means 0x5483ca63 (with_fields op.Blt 0 7 8 1364) ∷
    -- bge x9, x10, -2
    means 0xfea4dfe3 (with_fields op.Bge 0 9 10 0xfffffffe) ∷
    -- bltu x11, x12, 2048
    means 0x00c5e0e3 (with_fields op.Bltu 0 11 12 2048) ∷
    -- bgeu x13, x14, 30
    means 0x00e6ff63 (with_fields op.Bgeu 0 13 14 30) ∷
    -- lb x15, -1(x16)
    means 0xfff80783 (with_fields op.Lb 15 16 0 0xffffffff) ∷
    -- lh x17, 2047(x18)
    means 0x7ff91883 (with_fields op.Lh 17 18 0 2047) ∷
    -- lw x19, 4(x20)
    means 0x004a2983 (with_fields op.Lw 19 20 0 4) ∷
    -- lbu x21, 1(x22)
    means 0x001b4a83 (with_fields op.Lbu 21 22 0 1) ∷
    -- lhu x23, 2(x24)
    means 0x002c5b83 (with_fields op.Lhu 23 24 0 2) ∷
    -- sb x25, -1(x26)
    means 0xff9d0fa3 (with_fields op.Sb 0 26 25 0xffffffff) ∷
    -- sh x27, 1365(x28)
    means 0x55be1aa3 (with_fields op.Sh 0 28 27 1365) ∷
    -- sw x29, -2048(x30)
    means 0x81df2023 (with_fields op.Sw 0 30 29 0xfffff800) ∷
    -- addi x1, x2, -1
    means 0xfff10093 (with_fields op.Addi 1 2 0 0xffffffff) ∷
    -- slti x3, x4, 5
    means 0x00522193 (with_fields op.Slti 3 4 0 5) ∷
    -- sltiu x5, x6, -1
    means 0xfff33293 (with_fields op.Sltiu 5 6 0 0xffffffff) ∷
    -- xori x7, x8, -1
    means 0xfff44393 (with_fields op.Xori 7 8 0 0xffffffff) ∷
    -- ori x9, x10, 0x555
    means 0x55556493 (with_fields op.Ori 9 10 0 1365) ∷
    -- andi x11, x12, 0x2AA
    means 0x2aa67593 (with_fields op.Andi 11 12 0 682) ∷
    -- slli x13, x14, 31
    means 0x01f71693 (with_fields op.Slli 13 14 0 31) ∷
    -- srli x15, x16, 1
    means 0x00185793 (with_fields op.Srli 15 16 0 1) ∷
    -- srai x5, x6, 31
    means 0x41f35293 (with_fields op.Srai 5 6 0 31) ∷
    -- add x17, x18, x19
    means 0x013908b3 (with_fields op.Add 17 18 19 0) ∷
    -- sub x20, x21, x22
    means 0x416a8a33 (with_fields op.Sub 20 21 22 0) ∷
    -- sll x23, x24, x25
    means 0x019c1bb3 (with_fields op.Sll 23 24 25 0) ∷
    -- slt x26, x27, x28
    means 0x01cdad33 (with_fields op.Slt 26 27 28 0) ∷
    -- sltu x29, x30, x31
    means 0x01ff3eb3 (with_fields op.Sltu 29 30 31 0) ∷
    -- xor x1, x3, x5
    means 0x0051c0b3 (with_fields op.Xor 1 3 5 0) ∷
    -- srl x2, x4, x6
    means 0x00625133 (with_fields op.Srl 2 4 6 0) ∷
    -- sra x7, x9, x11
    means 0x40b4d3b3 (with_fields op.Sra 7 9 11 0) ∷
    -- or x8, x10, x12
    means 0x00c56433 (with_fields op.Or 8 10 12 0) ∷
    -- and x13, x15, x17
    means 0x0117f6b3 (with_fields op.And 13 15 17 0) ∷
    -- fence rw, w
    means 0x0310000f (with_fields op.Fence 0 0 0 49) ∷
    -- ecall
    means 0x00000073 (with_fields op.Ecall 0 0 0 0) ∷
    -- ebreak
    means 0x00100073 (with_fields op.Ebreak 0 0 0 0) ∷ []

-- words that are no RV32I instructions
abbrev pub others : List ℕ
others =
    -- 0 and all ones
    0x00000000 ∷
    0xffffffff ∷
    -- c.nop, a compressed instruction
    0x00000001 ∷
    -- fence.i
    0x0000100f ∷
    -- csrrw x0, mstatus, x0
    0x30001073 ∷
    -- mul x0, x0, x0
    0x02000033 ∷
    -- lwu and ld x0, 0(x0), of RV64I
    0x00006003 ∷
    0x00003003 ∷
    -- slli x0, x0, 32, of RV64I
    0x02001013 ∷
    -- mret
    0x30200073 ∷ []
