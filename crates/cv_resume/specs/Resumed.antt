-- Going on from kept rounds: each round's entry lines are kept as one piece before the next round
-- begins (docs/FORMATS.md, "Kept rounds"). Histories have their newest entry first.
use Rattle.std.specs.Prelude.{◌≡◌, ◌<◌, ◌≤◌, ◌+◌, ◌^◌, ℕ, List, [], ◌∷◌, ◌++◌, length, take}
use Rattle.std.specs.List.{concat}
use Rattle.cv_base.specs.declared.entries.Entry.{Entry}
use Rattle.cv_base.specs.PlanOf.{PlanOf}
use Rattle.cv_desk.specs.Openings.{IsUpTo}
use Rattle.cv_edge.specs.Disk.{LeavesOnly, Meaning}
use Rattle.cv_histories.specs.Legal.{IsLegal, IsWhole}
use Rattle.cv_histories.specs.Report.{entry_lines}
use Rattle.cv_keep.specs.Pieces.{pieces}
use Rattle.cv_manager.specs.ManagerOf.{ManagerOf}
use Rattle.cv_resume.specs.declared.going_on.Resumed.{Resumed}
use Rattle.cv_resume.specs.declared.going_on.Resumed.TheVariants.{Done, TooLong}

-- ---- rounds

-- the entry lines of one more round, by which a history has grown from `before` to `past`
pub record IsPieceOf (plan : PlanOf) (round : ℕ) (before past : List Entry) (piece : List ℕ) : Type 0 where
  pub more : List Entry
  pub behind : past ≡ more ++ before
  pub up_to : IsUpTo plan (round + 1) past
  pub lines : entry_lines past ≡ entry_lines before ++ piece

-- one piece for each round from this one on, none too long, by which a history has grown
abbrev pub AreRounds : PlanOf → ℕ → List Entry → List (List ℕ) → List Entry → Type 0
AreRounds plan round before [] past = past ≡ before
AreRounds plan round before (piece ∷ rest) past =
    (next : List Entry) × IsPieceOf plan round before next piece × (length piece ≤ 2 ^ 28) × AreRounds plan (round + 1) next rest past

-- joined, they are the entry lines that came to the history
abbrev pub RoundsJoin : Type 0
RoundsJoin =
    (plan : PlanOf) (round : ℕ) (before past : List Entry) (more : List (List ℕ)) → AreRounds plan round before more past
    → entry_lines past ≡ entry_lines before ++ concat more

-- ---- the disk

-- the image has the old pieces, and the first of these
abbrev pub HoldsFirst : List (List ℕ) → List (List ℕ) → List ℕ → Type 0
HoldsFirst old more image = (n : ℕ) × (n ≤ length more) × (pieces image ≡ old ++ take n more)

-- From a history on, a legal history has grown by rounds; where the disk tells, each image at a moment from old to new
-- has the old pieces, and those of the first of these rounds
pub record LeavesRounds {D : Type 0} (means : Meaning D) (plan : PlanOf) (round : ℕ) (before : List Entry) (old new : D) : Type 0 where
  pub past : List Entry
  pub legal : IsLegal plan past
  pub more : List (List ℕ)
  pub rounds : AreRounds plan round before more past
  pub images : means.tells → LeavesOnly means old new (HoldsFirst (pieces (means.content old)) more)

-- the rounds from one to another, by which a history has grown, were kept: the pieces are the old ones and theirs, in this order, and
-- each image at a moment from old to new has the old ones and the first of theirs
pub record HasKept {D : Type 0} (means : Meaning D) (plan : PlanOf) (round next : ℕ) (before past : List Entry) (old new : D) : Type 0 where
  pub more : List (List ℕ)
  pub count : next ≡ round + length more
  pub rounds : AreRounds plan round before more past
  pub content : means.tells → pieces (means.content new) ≡ pieces (means.content old) ++ more
  pub images : means.tells → LeavesOnly means old new (HoldsFirst (pieces (means.content old)) more)

-- ---- what going on from a book has come to

-- the book is legal and whole, and all rounds were kept
pub record IsDone {D : Type 0} (means : Meaning D) (from : ManagerOf) (round : ℕ) (old new : D) (book : ManagerOf) : Type 0 where
  pub of_plan : book.plan ≡ from.plan
  pub legal : IsLegal from.plan book.past
  pub whole : IsWhole from.plan book.past
  pub kept : HasKept means from.plan round (length from.plan.rounds) from.past book.past old new

-- the entry lines of this round, the last one in the legal book, are too long; the rounds before it were kept
pub record IsTooLong {D : Type 0} (means : Meaning D) (from : ManagerOf) (round : ℕ) (old new : D) (book : ManagerOf) (last : ℕ) : Type 0 where
  pub of_plan : book.plan ≡ from.plan
  pub legal : IsLegal from.plan book.past
  pub within : last < length from.plan.rounds
  pub past : List Entry
  pub kept : HasKept means from.plan round last from.past past old new
  pub piece : List ℕ
  pub last_round : IsPieceOf from.plan last past book.past piece
  pub long : 2 ^ 28 < length piece

abbrev pub IsResumed : {D : Type 0} → Meaning D → ManagerOf → ℕ → D → D → Resumed → Type 0
IsResumed means from round old new (Done book) = IsDone means from round old new book
IsResumed means from round old new (TooLong book last) = IsTooLong means from round old new book last
