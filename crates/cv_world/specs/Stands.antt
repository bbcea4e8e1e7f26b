-- What stays true of a world's parts (docs/REPAIR.md, "The world").
use Rattle.std.specs.Prelude.{◌≡◌, ℕ, List, map, Some, IfSome, slice_get}
use Rattle.cv_base.specs.PlanOf.{PlanOf, IsPlan}
use Rattle.cv_exec.specs.ArenaOf.{Going}
use Rattle.cv_exec.specs.LiveRun.{HaveTables}
use Rattle.cv_histories.specs.Runs.{Run, run_at}
use Rattle.cv_histories.specs.Versions.{ledger}
use Rattle.cv_laws.specs.WorldStands.{WorldStands}
use Rattle.cv_manager.specs.ManagerOf.{ManagerOf}
use Rattle.cv_runs.specs.PatchedRun.{Table}
use Rattle.cv_world.specs.InstanceOf.{InstanceOf}
use Rattle.cv_world.specs.WorldOf.{WorldOf, world_of}

-- a run that goes on as worker i, under versions of these tables
pub record IsGoing (plan : PlanOf) (versions : List Table) (i : ℕ) (g : Going) : Type 0 where
  pub run : Run
  pub of_plan : run_at plan g.run ≡ Some run
  pub worker : g.worker ≡ i
  pub tables : HaveTables versions g.adopted

-- instance i is of the plan, and so is its run
pub record IsInstance (plan : PlanOf) (versions : List Table) (i : ℕ) (x : InstanceOf) : Type 0 where
  pub plan_is : x.plan ≡ plan
  pub run : IfSome x.going (IsGoing plan versions i)

-- what these parts stand for
abbrev pub world_with : ManagerOf → ℕ → List InstanceOf → WorldOf
world_with book drawn instances = record { plan = book.plan; history = book.past; drawn = drawn; goings = map (λ (x : InstanceOf). x.going) instances }

-- each instance is as it should be, and the world of the definitions stands
pub record IsWorld (book : ManagerOf) (drawn : ℕ) (instances : List InstanceOf) : Type 0 where
  pub plan_is : IsPlan book.plan
  pub each : (i : ℕ) (x : InstanceOf) → slice_get instances i ≡ Some x → IsInstance book.plan (ledger book.plan book.past).versions i x
  pub stands : WorldStands book.plan (world_of (world_with book drawn instances))
