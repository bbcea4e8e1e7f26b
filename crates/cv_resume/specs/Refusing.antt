-- What entries, and a book of them, are refused for. Conditions of private parts.
use Rattle.std.specs.Prelude.{◌≡◌, ℕ, List, reverse, Contains, ⊤}
use Rattle.cv_audit.specs.Judged.{IsWrong}
use Rattle.cv_base.specs.declared.entries.Entry.{Entry}
use Rattle.cv_base.specs.PlanOf.{PlanOf}
use Rattle.cv_histories.specs.Legal.{IsLegal, round_of}
use Rattle.cv_resume.specs.Restored.{IsFirstPart}
use Rattle.cv_resume.specs.declared.faults.KeptFault.TheVariants.{BadPiece, Wrong, Partial, TooLong}
use Rattle.cv_resume.specs.declared.faults.RestoreFail.{RestoreFail}
use Rattle.cv_resume.specs.declared.faults.RestoreFail.TheVariants.{Refused, NoMemory}

-- an entry of the history is of this round
abbrev pub HasEntryOf : PlanOf → ℕ → List Entry → Type 0
HasEntryOf plan round past = (e : Entry) × Contains past e × (round_of plan e ≡ round)

-- a history is legal, and this is its first round with some runs kept and some not
abbrev pub IsPartOf : PlanOf → List Entry → ℕ → Type 0
IsPartOf plan past round = IsLegal plan past × IsFirstPart plan past round

-- of a legal history
abbrev pub IsPartFault : PlanOf → List Entry → RestoreFail → Type 0
IsPartFault plan past (Refused (BadPiece k)) = ⊥
IsPartFault plan past (Refused (Wrong at clause)) = ⊥
IsPartFault plan past (Refused (Partial round)) = IsPartOf plan past round
IsPartFault plan past (Refused (TooLong round)) = ⊥
IsPartFault plan past NoMemory = ⊤

-- of entries, the oldest first
abbrev pub IsRefusedBy : PlanOf → List Entry → RestoreFail → Type 0
IsRefusedBy plan entries (Refused (BadPiece k)) = ⊥
IsRefusedBy plan entries (Refused (Wrong at clause)) = IsWrong plan entries at clause
IsRefusedBy plan entries (Refused (Partial round)) = IsPartOf plan (reverse entries) round
IsRefusedBy plan entries (Refused (TooLong round)) = ⊥
IsRefusedBy plan entries NoMemory = ⊤
