-- What `assemble` answers of a reading: its words, or exactly its fault. Want of memory says nothing.
use Rattle.std.specs.Prelude.{◌≡◌, ℕ, List, Result, Ok, Err}
use Rattle.cv_asm.specs.declared.fault.AsmFail.{AsmFail}
use Rattle.cv_asm.specs.declared.fault.AsmFail.TheVariants.{Refused, NoMemory}
use Rattle.cv_asm.specs.declared.fault.AsmFault.{AsmFault}

abbrev pub Answers : {V : Type 0} → (V → List ℕ) → Result (List ℕ) AsmFault → Result V AsmFail → Type 0
Answers items reading (Ok v) = reading ≡ Ok (items v)
Answers items reading (Err (Refused fault)) = reading ≡ Err fault
Answers items reading (Err NoMemory) = Unit {0}
