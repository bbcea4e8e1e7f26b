-- What kept pieces come to under a plan: a book up to a round, or the first fault (docs/FORMATS.md,
-- "Kept rounds"). Histories have their newest entry first.
use Rattle.std.specs.Prelude.{◌≡◌, ◌<◌, ◌≤◌, ℕ, List, length, reverse, Ok, Err, IsSomeAnd, ⊤}
use Rattle.cv_audit.specs.Clauses.{HasRun}
use Rattle.cv_audit.specs.Judged.{IsBookOf, IsWrong}
use Rattle.cv_base.specs.declared.entries.Entry.{Entry}
use Rattle.cv_base.specs.PlanOf.{IsPlan, PlanOf}
use Rattle.cv_desk.specs.Openings.{IsUpTo}
use Rattle.cv_histories.specs.Legal.{IsLegal}
use Rattle.cv_histories.specs.Runs.{Run, run_at}
use Rattle.cv_resume.specs.Kept.{entries_of}
use Rattle.cv_resume.specs.declared.faults.KeptFault.{KeptFault}
use Rattle.cv_resume.specs.declared.faults.KeptFault.TheVariants.{BadPiece, Wrong, Partial, TooLong}
use Rattle.cv_resume.specs.declared.faults.RestoreFail.{RestoreFail}
use Rattle.cv_resume.specs.declared.faults.RestoreFail.TheVariants.{Refused, NoMemory}
use Rattle.cv_resume.specs.declared.restoring.Restored.{Restored}

-- ---- rounds

-- a run of this round
abbrev pub IsOfRound : PlanOf → ℕ → ℕ → Type 0
IsOfRound plan round number = IsSomeAnd (run_at plan number) (λ (run : Run). run.round ≡ round)

-- some runs of the round are kept, and some are not
pub record IsPart (plan : PlanOf) (past : List Entry) (round : ℕ) : Type 0 where
  pub kept : ℕ
  pub kept_in : IsOfRound plan round kept
  pub has : HasRun past kept
  pub other : ℕ
  pub other_in : IsOfRound plan round other
  pub lacks : HasRun past other → ⊥

-- it is the first such round
pub record IsFirstPart (plan : PlanOf) (past : List Entry) (round : ℕ) : Type 0 where
  pub part : IsPart plan past round
  pub first : (earlier : ℕ) → earlier < round → IsPart plan past earlier → ⊥

-- the book has the entries of all runs of so many rounds of its plan, and no others
pub record IsUpToRound (r : Restored) : Type 0 where
  pub up_to : IsUpTo r.book.plan r.rounds r.book.past
  pub within : r.rounds ≤ length r.book.plan.rounds

-- ---- answers

-- the book has the entries that the pieces hold, which are a legal history up to a round
pub record IsRestored (plan : PlanOf) (pieces : List (List ℕ)) (r : Restored) : Type 0 where
  pub entries : List Entry
  pub held : entries_of pieces ≡ Ok entries
  pub book : IsBookOf plan entries r.book
  pub up_to : IsUpToRound r

-- the entry at this place is the first that may not follow those before it, and breaks this clause first
pub record IsWrongIn (plan : PlanOf) (pieces : List (List ℕ)) (at clause : ℕ) : Type 0 where
  pub entries : List Entry
  pub held : entries_of pieces ≡ Ok entries
  pub wrong : IsWrong plan entries at clause

-- the history is legal, and this is its first round with some runs kept and some not
pub record IsPartIn (plan : PlanOf) (pieces : List (List ℕ)) (round : ℕ) : Type 0 where
  pub entries : List Entry
  pub held : entries_of pieces ≡ Ok entries
  pub legal : IsLegal plan (reverse entries)
  pub part : IsFirstPart plan (reverse entries) round

abbrev pub IsFault : PlanOf → List (List ℕ) → KeptFault → Type 0
IsFault plan pieces (BadPiece k) = entries_of pieces ≡ Err k
IsFault plan pieces (Wrong at clause) = IsWrongIn plan pieces at clause
IsFault plan pieces (Partial round) = IsPartIn plan pieces round
IsFault plan pieces (TooLong round) = ⊥

-- the pieces are refused for the fault that they have; or memory was refused
abbrev pub AreRefused : PlanOf → List (List ℕ) → RestoreFail → Type 0
AreRefused plan pieces (Refused fault) = IsFault plan pieces fault
AreRefused plan pieces NoMemory = ⊤

-- under a plan within its limits pieces come to one book, or to one fault
abbrev pub AnswersAreOne : Type 0
AnswersAreOne =
    (plan : PlanOf) (pieces : List (List ℕ)) → IsPlan plan
    → ((r s : Restored) → IsRestored plan pieces r → IsRestored plan pieces s → r ≡ s)
    × ((f g : KeptFault) → IsFault plan pieces f → IsFault plan pieces g → f ≡ g)
    × ((r : Restored) (f : KeptFault) → IsRestored plan pieces r → IsFault plan pieces f → ⊥)
