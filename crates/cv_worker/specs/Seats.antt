-- The passes of an office in their instances.
use Rattle.std.specs.Prelude.{◌≡◌, ℕ, List, length, Ok, Option, Result, Some, map}
use Rattle.cv_base.specs.declared.memory.NoMemory.{NoMemory}
use Rattle.cv_base.specs.PlanOf.{PlanOf}
use Rattle.cv_desk.specs.Openings.{SettingOf}
use Rattle.cv_desk.specs.Passes.{AreNew, Sight}
use Rattle.cv_worker.specs.Instances.{InstanceOf}

-- an office of this plan and round was made, and these are its passes
pub record IsStart (s : SettingOf) (plan : PlanOf) (round : ℕ) (passes : List Sight) : Type 0 where
  pub new : AreNew s 0 passes
  pub all : length passes ≡ s.plan.workers
  pub of_plan : s.plan ≡ plan
  pub of_round : s.round ≡ round

-- these passes are seated in these instances, in order
abbrev pub AreSeatedIn : List InstanceOf → List Sight → Type 0
AreSeatedIn instances passes = map (λ (i : InstanceOf). i.pass) instances ≡ map (λ (v : Sight). Some v) passes

-- the instances are of a plan, and have these passes
pub record AreOf (plan : PlanOf) (passes : List Sight) (instances : List InstanceOf) : Type 0 where
  pub plans : map (λ (i : InstanceOf). i.plan) instances ≡ map (λ (v : Sight). plan) passes
  pub seated : AreSeatedIn instances passes

-- an instance of a plan, with this pass
pub record IsInstanceOf (plan : PlanOf) (pass : Sight) (i : InstanceOf) : Type 0 where
  pub of_plan : i.plan ≡ plan
  pub seated : i.pass ≡ Some pass

-- each was made, and these are they
abbrev pub AreAllOf : List (Result InstanceOf NoMemory) → List InstanceOf → Type 0
AreAllOf made instances = made ≡ map (λ (i : InstanceOf). Ok i) instances
