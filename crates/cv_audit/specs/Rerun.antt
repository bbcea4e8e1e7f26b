-- What running an entry again tells (docs/REPAIR.md, "Audit"). Conditions of private parts.
use Rattle.std.specs.Prelude.{◌≡◌, ◌<◌, List, length}
use Rattle.std.specs.List.{AllByRecursion}
use Rattle.cv_base.specs.declared.entries.Adopted.{Adopted}
use Rattle.cv_base.specs.declared.entries.Entry.{Entry}
use Rattle.cv_base.specs.PlanOf.{PlanOf}
use Rattle.cv_exec.specs.RecordOf.{RecordOf}
use Rattle.cv_histories.specs.Honest.{IsHonest}
use Rattle.cv_histories.specs.Legal.{NeverFalls}
use Rattle.cv_runs.specs.PatchedRun.{Table}
use Rattle.cv_audit.specs.Clauses.{IsOfPlan}

-- each row's version is one of these
abbrev pub AreThere : List Table → List Adopted → Type 0
AreThere versions rows = AllByRecursion (λ (a : Adopted). a.version < length versions) rows

-- an entry's run can be run again
pub record MayRun (plan : PlanOf) (versions : List Table) (e : Entry) : Type 0 where
  pub worker : e.worker < plan.workers
  pub of_plan : IsOfPlan plan e
  pub some : 0 < length versions
  pub there : AreThere versions e.adopted
  pub rises : NeverFalls e.adopted

-- the record is of this entry, which is honest
pub record IsAgain (plan : PlanOf) (versions : List Table) (e : Entry) (r : RecordOf) : Type 0 where
  pub entry_is : r.entry ≡ e
  pub honest : IsHonest plan versions e

abbrev pub IsNotHonest : PlanOf → List Table → Entry → Type 0
IsNotHonest plan versions e = IsHonest plan versions e → ⊥
