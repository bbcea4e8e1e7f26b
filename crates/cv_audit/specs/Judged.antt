-- What a judge answers of a list of entries, the oldest first (docs/REPAIR.md, "Audit").
use Rattle.std.specs.Prelude.{◌≡◌, ◌<◌, ℕ, List, Some, length, reverse, slice_get, take}
use Rattle.cv_base.specs.declared.entries.Entry.{Entry}
use Rattle.cv_base.specs.PlanOf.{PlanOf}
use Rattle.cv_histories.specs.Legal.{IsLegal, IsWhole}
use Rattle.cv_histories.specs.Runs.{runs}
use Rattle.cv_manager.specs.ManagerOf.{ManagerOf}
use Rattle.cv_audit.specs.Clauses.{Breaks, HasRun}
use Rattle.cv_audit.specs.declared.verdict.Rebuilt.{Rebuilt}
use Rattle.cv_audit.specs.declared.verdict.Rebuilt.TheVariants as rebuilt
use Rattle.cv_audit.specs.declared.verdict.Verdict.{Verdict}
use Rattle.cv_audit.specs.declared.verdict.Verdict.TheVariants as verdict

-- the entries before place k, the newest first
abbrev pub before : List Entry → ℕ → List Entry
before entries k = reverse (take k entries)

-- the entries before place `at` are legal, and the one there breaks this clause first
pub record IsWrong (plan : PlanOf) (entries : List Entry) (at clause : ℕ) : Type 0 where
  pub entry : Entry
  pub found : slice_get entries at ≡ Some entry
  pub legal : IsLegal plan (before entries at)
  pub breaks : Breaks plan (before entries at) entry clause

-- the book of these entries
pub record IsBookOf (plan : PlanOf) (entries : List Entry) (book : ManagerOf) : Type 0 where
  pub of_plan : book.plan ≡ plan
  pub past : book.past ≡ reverse entries
  pub legal : IsLegal plan (reverse entries)

abbrev pub IsRebuilt : PlanOf → List Entry → Rebuilt → Type 0
IsRebuilt plan entries (rebuilt.Legal book) = IsBookOf plan entries book
IsRebuilt plan entries (rebuilt.Wrong at clause) = IsWrong plan entries at clause

-- the least run of the plan that has no entry
pub record IsLeast (plan : PlanOf) (past : List Entry) (run : ℕ) : Type 0 where
  pub of_plan : run < length (runs plan)
  pub none : HasRun past run → ⊥
  pub least : (number : ℕ) → number < run → HasRun past number

abbrev pub IsVerdict : PlanOf → List Entry → Verdict → Type 0
IsVerdict plan entries (verdict.Sound book) = IsBookOf plan entries book × IsWhole plan (reverse entries)
IsVerdict plan entries (verdict.Wrong at clause) = IsWrong plan entries at clause
IsVerdict plan entries (verdict.Missing run) = IsLegal plan (reverse entries) × IsLeast plan (reverse entries) run

-- the verdict on a legal history
abbrev pub IsVerdictOf : ManagerOf → Verdict → Type 0
IsVerdictOf m (verdict.Sound book) = (book ≡ m) × IsWhole m.plan m.past
IsVerdictOf m (verdict.Wrong at clause) = ⊥
IsVerdictOf m (verdict.Missing run) = IsLegal m.plan m.past × IsLeast m.plan m.past run
