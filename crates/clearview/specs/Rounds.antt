-- What `kept` makes of the disk on which it keeps its rounds (docs/FORMATS.md, "Kept rounds").
use Rattle.std.specs.Prelude.{◌≡◌, ◌⊎◌, ℕ, Bool, true, false, List, Option, Some, None, Ok, IfSome, IsTrue}
use Rattle.cv_base.specs.PlanOf.{PlanOf}
use Rattle.cv_edge.specs.Disk.{Meaning}
use Rattle.cv_edge.specs.Edge.{HasCause}
use Rattle.cv_manager.specs.ManagerOf.{ManagerOf}
use Rattle.cv_resume.specs.KeptRun.{HasFault, IsKeptDone, IsKeptLong, LeavesKeptOf}
use Rattle.cv_resume.specs.declared.faults.KeptFault.TheVariants as fault
use Rattle.clearview.specs.declared.cause.Cause.{Cause}
use Rattle.clearview.specs.declared.cause.Cause.TheVariants as cause
use Rattle.clearview.specs.Verdict.{plan_asked}
use Rattle.clearview.specs.Words.{Command, keeps_rounds}

-- How the rounds of a plan ended on a disk: with a book, each round that is done has its piece; a
-- refusal is for the fault that the pieces at the start have
abbrev pub CameTo : {D : Type 0} → Meaning D → PlanOf → D → D → Option ManagerOf → Cause → Type 0
CameTo means plan old new (Some book) (cause.KeptRefused (fault.TooLong round)) = IsKeptLong means plan old new book round
CameTo means plan old new (Some book) _ = IsKeptDone means plan old new book
CameTo means plan old new None (cause.KeptRefused f) = HasFault means plan old f
CameTo means plan old new None _ = Unit {0}

-- the rounds of the plan that the files hold were run over the disk
pub record RanRounds {D : Type 0} (means : Meaning D) (asked : Option Command) (files : Option (List ℕ → Option (List ℕ))) (old new : D) (ended : Cause) (made : Option ManagerOf) : Type 0 where
  pub asks : IsTrue (keeps_rounds asked)
  pub plan : PlanOf
  pub of_files : IfSome files (λ file. plan_asked asked file ≡ Ok plan)
  pub came_to : CameTo means plan old new made ended
  -- a crash at any moment leaves the pieces from the start, and those of the first of the rounds
  pub leaves : LeavesKeptOf means plan old new

-- a cause that may come before the disk is reached
abbrev pub comes_first : Cause → Bool
comes_first cause.Done = false
comes_first cause.SinkFault = false
comes_first cause.DiskFault = false
comes_first (cause.KeptRefused f) = false
comes_first _ = true

-- no call is made on the disk, by a command that keeps no rounds, or where something else came first
pub record IsUntouched {D : Type 0} (asked : Option Command) (old new : D) (ended : Cause) : Type 0 where
  pub same : new ≡ old
  pub why : (keeps_rounds asked ≡ false) ⊎ IsTrue (comes_first ended)

-- what a call for a command has made of a disk
pub record Keeps {D : Type 0} (means : Meaning D) (asked : Option Command) (files : Option (List ℕ → Option (List ℕ))) (old new : D) (ended : Cause) (made : Option ManagerOf) : Type 0 where
  pub disk : IsUntouched asked old new ended ⊎ RanRounds means asked files old new ended made
  pub fault : HasCause (means.faults old) (means.faults new) (ended ≡ cause.DiskFault)
