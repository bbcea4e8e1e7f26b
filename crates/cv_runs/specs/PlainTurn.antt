-- One turn of the machine: the word at the pc is an instruction, which is executed
-- (docs/MACHINE.md, "One turn").
use Rattle.std.specs.Prelude.{ℕ, false, Option, Some, None}
use Rattle.cv_base.specs.declared.ends.CrashCause.TheVariants.{IllegalInstruction, Break}
use Rattle.cv_base.specs.declared.ends.FailureKind.TheVariants.{Crash}
use Rattle.cv_base.specs.Picture.{Picture, word_at}
use Rattle.cv_isa.specs.declared.operation.Op.{Op}
use Rattle.cv_isa.specs.declared.operation.Op.TheVariants as op
use Rattle.cv_isa.specs.DecodeTable.{meaning_of}
use Rattle.cv_isa.specs.Instruction.{Instruction, format_of}
use Rattle.cv_isa.specs.declared.operation.Format.{Format}
use Rattle.cv_isa.specs.declared.operation.Format.TheVariants as format
use Rattle.cv_isa.specs.Uses.{link_kind_of}
use Rattle.cv_runs.specs.Arithmetic.{plus32, computed}
use Rattle.cv_runs.specs.Effects.{gone_on, advanced, jumped, indirect_target, branched, loaded_turn, stored_turn}
use Rattle.cv_runs.specs.Services.{served}
use Rattle.cv_runs.specs.State.{State, Outcome, pc_of, x, failed}

-- the second operand of a computation: rs2, or the immediate
abbrev pub operand : Format → State → Instruction → ℕ
operand format.Register s i = x s i.rs2
operand _ s i = i.imm

abbrev pub operated : Picture → State → Instruction → Option ℕ → Outcome
operated image s i (Some value) = advanced image s i.rd value
operated image s i None = branched image s i

abbrev pub executed : Picture → State → Instruction → Op → Outcome
executed image s i op.Lui = advanced image s i.rd i.imm
executed image s i op.Auipc = advanced image s i.rd (plus32 (pc_of s) i.imm)
executed image s i op.Jal = jumped image s (link_kind_of i) i.rd (plus32 (pc_of s) i.imm)
executed image s i op.Jalr = jumped image s (link_kind_of i) i.rd (indirect_target s i)
executed image s i op.Lb = loaded_turn image s i
executed image s i op.Lh = loaded_turn image s i
executed image s i op.Lw = loaded_turn image s i
executed image s i op.Lbu = loaded_turn image s i
executed image s i op.Lhu = loaded_turn image s i
executed image s i op.Sb = stored_turn image s i
executed image s i op.Sh = stored_turn image s i
executed image s i op.Sw = stored_turn image s i
executed image s i op.Fence = gone_on image s false
executed image s i op.Ecall = served image s
executed image s i op.Ebreak = failed s (Crash Break) 0
executed image s i operation = operated image s i (computed operation (x s i.rs1) (operand (format_of operation) s i))

abbrev pub decoded_turn : Picture → State → ℕ → Option Instruction → Outcome
decoded_turn image s word None = failed s (Crash IllegalInstruction) word
decoded_turn image s word (Some i) = executed image s i i.op

-- the outcome of the turn at a state whose pc is a point
unfoldable pub turn_of : Picture → State → Outcome
turn_of image s = decoded_turn image s (word_at image (pc_of s)) (meaning_of (word_at image (pc_of s)))
