-- Which operands an instruction has, in the order in which they are written, and the instruction that
-- they make (docs/FORMATS.md, "Assembly").
use Rattle.std.specs.Prelude.{ℕ, ◌*◌, ◌^◌, List, [], ◌∷◌}
use Rattle.cv_isa.specs.declared.operation.Op.{Op}
use Rattle.cv_isa.specs.declared.operation.Op.TheVariants as op
use Rattle.cv_isa.specs.declared.operation.Format.{Format}
use Rattle.cv_isa.specs.declared.operation.Format.TheVariants.{Register, Immediate, Shift, Store, Branch, Upper, Jump, Environment}
use Rattle.cv_isa.specs.Instruction.{Instruction, format_of}
use Rattle.cv_isa.specs.DecodeTable.{with_fields}
use Rattle.cv_asm.specs.declared.shapes.Kind.{Kind}
use Rattle.cv_asm.specs.declared.shapes.Kind.TheVariants as kind
use Rattle.cv_asm.specs.declared.shapes.Shape.{Shape}
use Rattle.cv_asm.specs.declared.shapes.Shape.TheVariants as shape

-- the shape of the I-type rows: JALR and loads have an address, FENCE stands alone
abbrev pub immediate_shape : Op → Shape
immediate_shape op.Jalr = shape.FromAddress
immediate_shape op.Lb = shape.FromAddress
immediate_shape op.Lh = shape.FromAddress
immediate_shape op.Lw = shape.FromAddress
immediate_shape op.Lbu = shape.FromAddress
immediate_shape op.Lhu = shape.FromAddress
immediate_shape op.Fence = shape.Fence
immediate_shape _ = shape.WithNumber

abbrev pub shape_in : Format → Op → Shape
shape_in Register o = shape.Registers
shape_in Immediate o = immediate_shape o
shape_in Shift o = shape.ByAmount
shape_in Store o = shape.ToAddress
shape_in Branch o = shape.Branch
shape_in Upper o = shape.UpperBits
shape_in Jump o = shape.Jump
shape_in Environment o = shape.Alone

abbrev pub shape_of : Op → Shape
shape_of o = shape_in (format_of o) o

-- the operands of a shape; numbers and targets from −low to high
abbrev pub kinds_of : Shape → List Kind
-- rd, rs1, rs2
kinds_of shape.Registers = kind.Register ∷ kind.Register ∷ kind.Register ∷ []
-- rd, rs1, number
kinds_of shape.WithNumber = kind.Register ∷ kind.Register ∷ kind.Number 2048 2047 ∷ []
-- rd, rs1, amount
kinds_of shape.ByAmount = kind.Register ∷ kind.Register ∷ kind.Number 0 31 ∷ []
-- rd, number(rs1)
kinds_of shape.FromAddress = kind.Register ∷ kind.Number 2048 2047 ∷ kind.Register ∷ []
-- rs2, number(rs1)
kinds_of shape.ToAddress = kind.Register ∷ kind.Number 2048 2047 ∷ kind.Register ∷ []
-- rs1, rs2, target
kinds_of shape.Branch = kind.Register ∷ kind.Register ∷ kind.Target 4096 4094 ∷ []
-- rd, the upper 20 bits
kinds_of shape.UpperBits = kind.Register ∷ kind.Number 0 1048575 ∷ []
-- rd, target
kinds_of shape.Jump = kind.Register ∷ kind.Target 1048576 1048574 ∷ []
kinds_of shape.Fence = []
kinds_of shape.Alone = []

-- the instruction with these values of its operands
abbrev pub instruction_with : Shape → Op → List ℕ → Instruction
instruction_with shape.Registers o (d ∷ s ∷ t ∷ []) = with_fields o d s t 0
instruction_with shape.WithNumber o (d ∷ s ∷ n ∷ []) = with_fields o d s 0 n
instruction_with shape.ByAmount o (d ∷ s ∷ n ∷ []) = with_fields o d s 0 n
instruction_with shape.FromAddress o (d ∷ n ∷ s ∷ []) = with_fields o d s 0 n
instruction_with shape.ToAddress o (t ∷ n ∷ s ∷ []) = with_fields o 0 s t n
instruction_with shape.Branch o (s ∷ t ∷ n ∷ []) = with_fields o 0 s t n
instruction_with shape.UpperBits o (d ∷ n ∷ []) = with_fields o d 0 0 (n * 2 ^ 12)
instruction_with shape.Jump o (d ∷ n ∷ []) = with_fields o d 0 0 n
-- fence iorw, iorw: the word 0FF0000F
instruction_with shape.Fence o _ = with_fields o 0 0 0 255
instruction_with _ o _ = with_fields o 0 0 0 0
