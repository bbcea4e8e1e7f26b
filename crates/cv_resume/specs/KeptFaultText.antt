-- Why kept rounds are refused, as text (docs/FORMATS.md, "Lines on standard error").
use Rattle.std.specs.Prelude.{ℕ, List, ◌++◌, codes}
use Rattle.std.specs.Fmt.{decimal}
use Rattle.cv_resume.specs.declared.faults.KeptFault.{KeptFault}
use Rattle.cv_resume.specs.declared.faults.KeptFault.TheVariants.{BadPiece, Wrong, Partial, TooLong}

abbrev pub fault_text : KeptFault → List ℕ
fault_text (BadPiece number) = codes "bad-piece " ++ decimal number
fault_text (Wrong at clause) = codes "wrong " ++ decimal at ++ codes " " ++ decimal clause
fault_text (Partial round) = codes "partial " ++ decimal round
fault_text (TooLong round) = codes "too-long " ++ decimal round
