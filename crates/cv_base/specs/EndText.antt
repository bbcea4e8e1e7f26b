-- How a run ended, as text (docs/FORMATS.md, "Text forms").
use Rattle.std.specs.Prelude.{ℕ, List, ◌++◌, codes}
use Rattle.std.specs.Fmt.{decimal}
use Rattle.cv_base.specs.declared.ends.CrashCause.TheVariants.{IllegalInstruction, Break, Deep, Misaligned, Unreadable, Code, Unwritable}
use Rattle.cv_base.specs.declared.ends.FailureKind.{FailureKind}
use Rattle.cv_base.specs.declared.ends.FailureKind.TheVariants.{IllegalTransfer, HeapGuard, ShadowStack, Crash}
use Rattle.cv_base.specs.declared.ends.End.{End}
use Rattle.cv_base.specs.declared.ends.End.TheVariants.{Exit, Failure, Budget}
use Rattle.cv_base.specs.Text.{address_text}

abbrev pub kind_text : FailureKind → List ℕ
kind_text IllegalTransfer = codes "illegal-transfer"
kind_text HeapGuard = codes "heap-guard"
kind_text ShadowStack = codes "shadow-stack"
kind_text (Crash IllegalInstruction) = codes "crash-illegal"
kind_text (Crash Break) = codes "crash-break"
kind_text (Crash Deep) = codes "crash-deep"
kind_text (Crash Misaligned) = codes "crash-misaligned"
kind_text (Crash Unreadable) = codes "crash-unreadable"
kind_text (Crash Code) = codes "crash-code"
kind_text (Crash Unwritable) = codes "crash-unwritable"

abbrev pub end_text : End → List ℕ
end_text (Exit code) = codes "exit:" ++ decimal code
end_text (Failure id detail) =
    codes "failure:" ++ kind_text id.kind ++ codes ":" ++ address_text id.pc ++ codes ":" ++ address_text detail
end_text Budget = codes "budget"
