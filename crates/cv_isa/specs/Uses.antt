-- What an instruction reads, whether it is a transfer of control, and what it does to the return
-- address stack.
-- RISC-V Unprivileged ISA, "RV32I Base Integer Instruction Set": 2.1 (x0), 2.4 and 2.6 (register
-- operands), 2.5 "Control Transfer Instructions" with its table of return-address stack hints,
-- 2.7 (FENCE) and 2.8 (ECALL, EBREAK). That ECALL reads x10, x11, x12 and x17 is the calling
-- convention of this project's services: the number in x17, the arguments in x10 to x12.
use Rattle.std.specs.Prelude.{ℕ, Bool, true, false, not, ◌&&◌, ◌||◌, ◌==◌, List, if◌then◌else◌}
use Rattle.std.specs.List.{filter, range_with_len}
use Rattle.std.specs.Int.{bit_at}
use Rattle.cv_isa.specs.declared.operation.Op.{Op}
use Rattle.cv_isa.specs.declared.operation.Op.TheVariants as op
use Rattle.cv_isa.specs.declared.operation.Format.{Format}
use Rattle.cv_isa.specs.declared.operation.Format.TheVariants.{Register, Immediate, Shift, Store, Branch, Upper, Jump, Environment}
use Rattle.cv_isa.specs.declared.registers.RegSet.{RegSet}
use Rattle.cv_isa.specs.declared.uses.LinkKind.{LinkKind}
use Rattle.cv_isa.specs.declared.uses.LinkKind.TheVariants.{Nothing, Push, Pop, PopPush}
use Rattle.cv_isa.specs.Instruction.{Instruction, format_of}

-- the registers with a number of their own, in ascending order: x1 to x31 (x0 is always 0)
unfoldable pub registers : List ℕ
registers = range_with_len 1 31

-- a source register field of the format names register r
abbrev pub names : Format → Instruction → ℕ → Bool
names Register i r = (r == i.rs1) || (r == i.rs2)
names Immediate i r = r == i.rs1
names Shift i r = r == i.rs1
names Store i r = (r == i.rs1) || (r == i.rs2)
names Branch i r = (r == i.rs1) || (r == i.rs2)
names Upper i r = false
names Jump i r = false
names Environment i r = false

-- the operation takes a value from register r, x0 included
abbrev pub takes : Op → Instruction → ℕ → Bool
takes op.Fence i r = false
takes op.Ecall i r = (r == 10) || (r == 11) || (r == 12) || (r == 17)
takes operation i r = names (format_of operation) i r

-- the instruction reads register r; reading x0 does not count
abbrev pub is_read : Instruction → ℕ → Bool
is_read i r = not (r == 0) && takes i.op i r

-- the registers that the instruction reads, each once, in ascending order
abbrev pub reads_of : Instruction → List ℕ
reads_of i = filter (is_read i) registers

-- register r is in the set: bit r of its word is 1
abbrev pub has : RegSet → ℕ → Bool
has set r = bit_at set.bits r == 1

-- the registers of a set, in ascending order
abbrev pub members_of : RegSet → List ℕ
members_of set = filter (has set) registers

abbrev pub is_transfer_at : Op → Bool
is_transfer_at op.Jal = true
is_transfer_at op.Jalr = true
is_transfer_at op.Beq = true
is_transfer_at op.Bne = true
is_transfer_at op.Blt = true
is_transfer_at op.Bge = true
is_transfer_at op.Bltu = true
is_transfer_at op.Bgeu = true
is_transfer_at op.Ecall = true
is_transfer_at op.Ebreak = true
is_transfer_at _ = false

-- the instruction may go on elsewhere than at the next word: jumps, branches, ECALL and EBREAK
abbrev pub is_transfer_of : Instruction → Bool
is_transfer_of i = is_transfer_at i.op

-- x1 and x5 hold return addresses
abbrev pub is_link : ℕ → Bool
is_link r = (r == 1) || (r == 5)

-- by rd and rs1, as the table of hints has it
abbrev pub jalr_link : ℕ → ℕ → LinkKind
jalr_link rd rs1 =
    if is_link rd
    then (if is_link rs1 && not (rd == rs1) then PopPush else Push)
    else (if is_link rs1 then Pop else Nothing)

abbrev pub link_kind_at : Op → ℕ → ℕ → LinkKind
link_kind_at op.Jal rd rs1 = if is_link rd then Push else Nothing
link_kind_at op.Jalr rd rs1 = jalr_link rd rs1
link_kind_at _ rd rs1 = Nothing

-- what the instruction does to the return-address stack
abbrev pub link_kind_of : Instruction → LinkKind
link_kind_of i = link_kind_at i.op i.rd i.rs1
