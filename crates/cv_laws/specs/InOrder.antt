-- Runs that are taken in order by worker 0 (docs/REPAIR.md, "The serial history").
use Rattle.std.specs.Prelude.{◌≡◌, ◌+◌, ℕ, Contains, List, [], ◌∷◌}
use Rattle.std.specs.List.{AllByRecursion}
use Rattle.cv_base.specs.declared.entries.Adopted.{Adopted}
use Rattle.cv_base.specs.declared.entries.Entry.{Entry}
use Rattle.cv_base.specs.PlanOf.{PlanOf}
use Rattle.cv_histories.specs.Honest.{IsHonest}
use Rattle.cv_histories.specs.Versions.{ledger, newest}

-- the runs of these entries are those below k, the last one first
abbrev pub AreBelow : ℕ → List Entry → Type 0
AreBelow k [] = k ≡ 0
AreBelow k (e ∷ past) = (k ≡ e.run + 1) × AreBelow e.run past

-- all entries are by worker 0
abbrev pub AreByWorkerZero : List Entry → Type 0
AreByWorkerZero past = AllByRecursion (λ (e : Entry). e.worker ≡ 0) past

-- an honest entry of run k by worker 0, which adopted the newest version alone
pub record IsNext (plan : PlanOf) (past : List Entry) (k : ℕ) (e : Entry) : Type 0 where
  pub run : e.run ≡ k
  pub worker : e.worker ≡ 0
  pub newest_alone : AllByRecursion (λ (a : Adopted). a.version ≡ newest plan past) e.adopted
  pub honest : IsHonest plan (ledger plan past).versions e

-- a run has an entry in a history
abbrev pub HasEntry : ℕ → List Entry → Type 0
HasEntry number past = (e : Entry) × Contains past e × (e.run ≡ number)
