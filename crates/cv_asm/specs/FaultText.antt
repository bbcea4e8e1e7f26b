-- Why a source is refused, as text (docs/FORMATS.md, "Faults").
use Rattle.std.specs.Prelude.{ℕ, List, ◌++◌, codes}
use Rattle.std.specs.Fmt.{decimal}
use Rattle.cv_asm.specs.declared.fault.AsmFault.{AsmFault}
use Rattle.cv_asm.specs.declared.fault.LineFault.{LineFault}
use Rattle.cv_asm.specs.declared.fault.LineFault.TheVariants as fault

abbrev pub line_fault_text : LineFault → List ℕ
line_fault_text fault.BadLabel = codes "bad-label"
line_fault_text fault.DoubleLabel = codes "double-label"
line_fault_text fault.UnknownName = codes "unknown-name"
line_fault_text fault.OperandCount = codes "operand-count"
line_fault_text (fault.BadOperand k) = codes "bad-operand " ++ decimal k
line_fault_text (fault.OutOfRange k) = codes "out-of-range " ++ decimal k
line_fault_text (fault.UnknownLabel k) = codes "unknown-label " ++ decimal k
line_fault_text fault.TooManyWords = codes "too-many-words"

abbrev pub asm_fault_text : AsmFault → List ℕ
asm_fault_text f = codes "line " ++ decimal f.line ++ codes " " ++ line_fault_text f.fault
