-- What a record stands for: the plan of a run, the run's entry, and the tables of the versions that
-- it adopted.
use Rattle.std.specs.Prelude.{◌≡◌, List}
use Rattle.cv_base.specs.declared.entries.Entry.{Entry}
use Rattle.cv_base.specs.PlanOf.{PlanOf}
use Rattle.cv_exec.specs.LiveRun.{Span, HaveTables, rows_of}
use Rattle.cv_histories.specs.Honest.{IsHonest}
use Rattle.cv_histories.specs.Legal.{NeverFalls}
use Rattle.cv_runs.specs.PatchedRun.{Table}

pub record RecordOf : Type 0 where
  pub plan : PlanOf
  pub entry : Entry
  pub adopted : List Span

-- the entry is honest wherever the versions that it adopted have these tables
abbrev pub IsHonestUnder : PlanOf → List Span → Entry → Type 0
IsHonestUnder plan adopted e = (versions : List Table) → HaveTables versions adopted → IsHonest plan versions e

-- what a record keeps: its tables are one for each row of versions, and these never fall
pub record IsRecord (plan : PlanOf) (adopted : List Span) (e : Entry) : Type 0 where
  pub honest : IsHonestUnder plan adopted e
  pub rows : rows_of adopted ≡ e.adopted
  pub rises : NeverFalls e.adopted
