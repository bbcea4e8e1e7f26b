-- The clause that an entry breaks first, from what each test answers.
use Rattle.std.proofs.Common.{◌≡◌, Bool, false, List, Option, None, Some, refl, inl, inr}
use Rattle.std.specs.Prelude.{◌↔◌, IsSome, IsSomeAnd, IsTrue}
use Rattle.cv_base.specs.declared.entries.Entry.{Entry}
use Rattle.cv_base.specs.PlanOf.{PlanOf}
use Rattle.cv_audit.specs.Clauses.{AboveFloors, Breaks, OfPlan, OwnRun, Passes, RoundsDone, RunsRise, VersionsExist, VersionsRise}

-- a test that answers no
pub refused : {P : Type 0} (b : Bool) → b ≡ false → IsTrue b ↔ P → P → ⊥
refused b is decides has = let yes = decides.1 has in absurd cc

-- there is a run of which something holds
pub some_run : {X : Type 0} (o : Option X) (P : X → Type 0) → IsSomeAnd o P → IsSome o
some_run None P has = absurd has
some_run (Some x) P has = refl

module _ (plan : PlanOf) (past : List Entry) (e : Entry) where
  pub own_run_fails : (Passes plan past e OwnRun → ⊥) → Breaks plan past e 1
  own_run_fails fails = inl (fails, refl)

  pub of_plan_fails : Passes plan past e OwnRun → (Passes plan past e OfPlan → ⊥) → Breaks plan past e 4
  of_plan_fails a fails = inr (a, inl (fails, refl))

  pub rounds_fail : Passes plan past e OwnRun → Passes plan past e OfPlan → (Passes plan past e RoundsDone → ⊥) → Breaks plan past e 2
  rounds_fail a b fails = inr (a, inr (b, inl (fails, refl)))

  pub runs_fail : Passes plan past e OwnRun → Passes plan past e OfPlan → Passes plan past e RoundsDone → (Passes plan past e RunsRise → ⊥) → Breaks plan past e 3
  runs_fail a b c fails = inr (a, inr (b, inr (c, inl (fails, refl))))

  pub versions_fail : Passes plan past e OwnRun → Passes plan past e OfPlan → Passes plan past e RoundsDone → Passes plan past e RunsRise → (Passes plan past e VersionsExist → ⊥) → Breaks plan past e 7
  versions_fail a b c d fails = inr (a, inr (b, inr (c, inr (d, inl (fails, refl)))))

  pub order_fails : Passes plan past e OwnRun → Passes plan past e OfPlan → Passes plan past e RoundsDone → Passes plan past e RunsRise → Passes plan past e VersionsExist → (Passes plan past e VersionsRise → ⊥) → Breaks plan past e 5
  order_fails a b c d x fails = inr (a, inr (b, inr (c, inr (d, inr (x, inl (fails, refl))))))

  pub floors_fail : Passes plan past e OwnRun → Passes plan past e OfPlan → Passes plan past e RoundsDone → Passes plan past e RunsRise → Passes plan past e VersionsExist → Passes plan past e VersionsRise → (Passes plan past e AboveFloors → ⊥) → Breaks plan past e 6
  floors_fail a b c d x y fails = inr (a, inr (b, inr (c, inr (d, inr (x, inr (y, inl (fails, refl)))))))
