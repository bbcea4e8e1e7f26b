-- How the rounds of a plan end. Conditions of private functions, which no reader has to believe.
use Rattle.std.specs.Prelude.{◌≡◌, ◌⊎◌, ◌↔◌, ℕ, List, Option, Some, None, Ok, IfSome, IsSome}
use Rattle.cv_base.specs.PlanOf.{PlanOf}
use Rattle.cv_edge.specs.Disk.{Meaning}
use Rattle.cv_edge.specs.Edge.{HasCause}
use Rattle.cv_histories.specs.Report.{report}
use Rattle.cv_manager.specs.ManagerOf.{ManagerOf}
use Rattle.cv_resume.specs.KeptRun.{LeavesKeptOf}
use Rattle.cv_resume.specs.declared.faults.KeptFault.{KeptFault}
use Rattle.clearview.specs.Causes.{Silent, Writes}
use Rattle.clearview.specs.Headline.{HasBook, IsBookOf, IsPosted}
use Rattle.clearview.specs.Rounds.{CameTo}
use Rattle.clearview.specs.declared.cause.Cause.{Cause}
use Rattle.clearview.specs.declared.cause.Cause.TheVariants as cause

-- a cause that may come once the plan stands
abbrev pub IsLate : Cause → Type 0
IsLate c = (c ≡ cause.Done) ⊎ (c ≡ cause.SinkFault) ⊎ (c ≡ cause.NoMemory) ⊎ (c ≡ cause.DiskFault) ⊎ ((f : KeptFault) × (c ≡ cause.KeptRefused f))

-- the report of the book of all runs was written, or memory was refused for its text
pub record IsWritten (book : ManagerOf) (before after : Option (List ℕ)) (faults_before faults_after : ℕ) (c : Cause) : Type 0 where
  pub ends : (c ≡ cause.Done) ⊎ (c ≡ cause.SinkFault)
  pub posted : IsPosted book
  pub writes : Writes (Ok (report book.plan book.past)) c before after
  pub sink_fault : HasCause faults_before faults_after (c ≡ cause.SinkFault)

pub record IsUnwritten (before after : Option (List ℕ)) (faults_before faults_after : ℕ) (c : Cause) : Type 0 where
  pub ends : c ≡ cause.NoMemory
  pub same : after ≡ before
  pub sink : faults_after ≡ faults_before

abbrev pub WholeEnd : ManagerOf → Option (List ℕ) → Option (List ℕ) → ℕ → ℕ → Cause → Option ManagerOf → Type 0
WholeEnd book before after faults_before faults_after c None = IsUnwritten before after faults_before faults_after c
WholeEnd book before after faults_before faults_after c (Some made) = (made ≡ book) × IsWritten book before after faults_before faults_after c

pub record RoundsEnd {D : Type 0} (means : Meaning D) (plan : PlanOf) (old new : D) (before after : Option (List ℕ)) (faults_before faults_after : ℕ) (c : Cause) (made : Option ManagerOf) : Type 0 where
  pub late : IsLate c
  pub book : IsSome made ↔ HasBook c
  pub posted : IfSome made (IsBookOf c)
  pub of_plan : IfSome made (λ (b : ManagerOf). b.plan ≡ plan)
  pub report : IfSome made (λ (b : ManagerOf). Writes (Ok (report b.plan b.past)) c before after)
  pub silent : Silent c before after
  pub sink_fault : HasCause faults_before faults_after (c ≡ cause.SinkFault)
  pub came_to : CameTo means plan old new made c
  pub leaves : LeavesKeptOf means plan old new
  pub disk_fault : HasCause (means.faults old) (means.faults new) (c ≡ cause.DiskFault)
