-- A run of a plan's rounds that are not kept yet, behind those that a disk holds (docs/FORMATS.md,
-- "Kept rounds"). Histories have their newest entry first.
use Rattle.std.specs.Prelude.{◌≡◌, ◌+◌, ◌<◌, ◌^◌, ℕ, List, [], ◌∷◌, ◌++◌, length, ⊤}
use Rattle.std.specs.List.{concat}
use Rattle.cv_base.specs.declared.entries.Entry.{Entry}
use Rattle.cv_base.specs.PlanOf.{PlanOf}
use Rattle.cv_edge.specs.Disk.{LeavesOnly, Meaning, Only}
use Rattle.cv_histories.specs.Legal.{IsLegal, IsWhole}
use Rattle.cv_histories.specs.Report.{entry_lines}
use Rattle.cv_keep.specs.Pieces.{pieces}
use Rattle.cv_manager.specs.ManagerOf.{ManagerOf}
use Rattle.cv_resume.specs.Restored.{IsFault, IsRestored}
use Rattle.cv_resume.specs.Resumed.{AreRounds, HoldsFirst, IsPieceOf}
use Rattle.cv_resume.specs.declared.faults.KeptFault.{KeptFault}
use Rattle.cv_resume.specs.declared.faults.KeptFail.{KeptFail}
use Rattle.cv_resume.specs.declared.faults.KeptFail.TheVariants as fail
use Rattle.cv_resume.specs.declared.going_on.Resumed.{Resumed}
use Rattle.cv_resume.specs.declared.going_on.Resumed.TheVariants.{Done, TooLong}
use Rattle.cv_resume.specs.declared.restoring.Restored.{Restored}

-- the pieces of a disk's content
abbrev pub pieces_on : {D : Type 0} → Meaning D → D → List (List ℕ)
pieces_on means disk = pieces (means.content disk)

-- The pieces of rounds of a plan, behind those that pieces come to; with them the history is this
pub record AddsRounds (plan : PlanOf) (old more : List (List ℕ)) (past : List Entry) : Type 0 where
  pub from : Restored
  pub restored : IsRestored plan old from
  pub rounds : AreRounds plan from.rounds from.book.past more past

-- each round up to this one has its piece: those of the old pieces, and one for each round behind them
pub record GoesOn (plan : PlanOf) (old new : List (List ℕ)) (next : ℕ) (past : List Entry) : Type 0 where
  pub more : List (List ℕ)
  pub pieces : new ≡ old ++ more
  pub adds : AddsRounds plan old more past
  pub count : next ≡ adds.from.rounds + length more

-- the book is of all runs; where the disk tells, each round has its piece, and the pieces, joined,
-- are the book's entry lines
pub record IsKeptDone {D : Type 0} (means : Meaning D) (plan : PlanOf) (old new : D) (book : ManagerOf) : Type 0 where
  pub of_plan : book.plan ≡ plan
  pub legal : IsLegal plan book.past
  pub whole : IsWhole plan book.past
  pub goes_on : means.tells → GoesOn plan (pieces_on means old) (pieces_on means new) (length plan.rounds) book.past
  pub joined : means.tells → concat (pieces_on means new) ≡ entry_lines book.past

-- the entry lines of this round, the last one in the book, are too long; where the disk tells, the
-- rounds before it have their pieces
pub record IsKeptLong {D : Type 0} (means : Meaning D) (plan : PlanOf) (old new : D) (book : ManagerOf) (last : ℕ) : Type 0 where
  pub of_plan : book.plan ≡ plan
  pub legal : IsLegal plan book.past
  pub within : last < length plan.rounds
  pub past : List Entry
  pub goes_on : means.tells → GoesOn plan (pieces_on means old) (pieces_on means new) last past
  pub piece : List ℕ
  pub last_round : IsPieceOf plan last past book.past piece
  pub long : 2 ^ 28 < length piece

abbrev pub IsKeptRun : {D : Type 0} → Meaning D → PlanOf → D → D → Resumed → Type 0
IsKeptRun means plan old new (Done book) = IsKeptDone means plan old new book
IsKeptRun means plan old new (TooLong book last) = IsKeptLong means plan old new book last

-- the pieces that were found have this fault; where the disk tells, they are those of its content
pub record HasFault {D : Type 0} (means : Meaning D) (plan : PlanOf) (old : D) (fault : KeptFault) : Type 0 where
  pub found : List (List ℕ)
  pub of_content : means.tells → found ≡ pieces_on means old
  pub has : IsFault plan found fault

-- kept pieces are refused for the fault that they have
abbrev pub AreKeptRefused : {D : Type 0} → Meaning D → PlanOf → D → KeptFail → Type 0
AreKeptRefused means plan old (fail.Refused fault) = HasFault means plan old fault
AreKeptRefused means plan old fail.DiskFault = ⊤
AreKeptRefused means plan old fail.NoMemory = ⊤

-- new pieces, where there are any, are those of rounds of one legal history
pub record AreLegalRounds (plan : PlanOf) (old more : List (List ℕ)) : Type 0 where
  pub past : List Entry
  pub legal : IsLegal plan past
  pub adds : AddsRounds plan old more past

abbrev pub AreNew : PlanOf → List (List ℕ) → List (List ℕ) → Type 0
AreNew plan old [] = Unit {0}
AreNew plan old (piece ∷ more) = AreLegalRounds plan old (piece ∷ more)

-- A crash at any moment leaves the old pieces, and behind them those of the first of some rounds,
-- all of one legal history
pub record LeavesKept {D : Type 0} (means : Meaning D) (plan : PlanOf) (old new : D) : Type 0 where
  pub more : List (List ℕ)
  pub rounds : AreNew plan (pieces_on means old) more
  pub images : LeavesOnly means old new (HoldsFirst (pieces_on means old) more)

-- what holds of a disk that tells, and that a crash at the start leaves as it is
abbrev pub LeavesKeptOf : {D : Type 0} → Meaning D → PlanOf → D → D → Type 0
LeavesKeptOf means plan old new = means.tells → Only (means.content old) (means.image old) → LeavesKept means plan old new
