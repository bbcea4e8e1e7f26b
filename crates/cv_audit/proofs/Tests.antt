-- The tests of an entry are the fields of `MayFollow`, and of tests in their order one at most is
-- the first that fails.
use Rattle.std.proofs.Common.{◌≡◌, ℕ, List, [], ◌∷◌, sym, ◌∙◌, ⊎_elim}
use Rattle.std.specs.List.{AllByRecursion}
use Rattle.cv_base.specs.declared.entries.Entry.{Entry}
use Rattle.cv_base.specs.PlanOf.{PlanOf}
use Rattle.cv_histories.specs.Legal.{MayFollow}
use Rattle.cv_audit.specs.Clauses.{Breaks, FailsFirst, IsOfPlan, Passes, PassesAll, Test, tests}
use Rattle.cv_audit.specs.Statements.{TestsAreFollowing}

-- where a test fails first, not all hold
pub not_all : (Does : Test → Type 0) (some : List Test) (clause : ℕ) → FailsFirst Does some clause → AllByRecursion Does some → ⊥
not_all Does [] clause fails all = fails
not_all Does (test ∷ rest) clause fails all = ⊎_elim (λ here. here.0 all.0) (λ later. not_all Does rest clause later.1 all.1) fails

-- and it is the only one that fails first
one_first : (Does : Test → Type 0) (some : List Test) (a b : ℕ) → FailsFirst Does some a → FailsFirst Does some b → a ≡ b
one_first Does [] a b first second = absurd first
one_first Does (test ∷ rest) a b first second =
    ⊎_elim
    (λ x. ⊎_elim (λ y. x.1 ∙ sym y.1) (λ y. absurd (x.0 y.0)) second)
    (λ x. ⊎_elim (λ y. absurd (y.0 x.0)) (λ y. one_first Does rest a b x.1 y.1) second) first

-- all tests are what lets an entry follow
pub passes_follow : (plan : PlanOf) (past : List Entry) (e : Entry) → PassesAll plan past e → MayFollow plan past e
passes_follow plan past e all = record {
  worker = all.0.0;
  fresh = all.0.1;
  rounds = all.1.1.0;
  rises = all.1.1.1.0;
  honest = all.1.1.1.1.1.1.1.0;
  never_falls = all.1.1.1.1.1.0;
  above_worker = all.1.1.1.1.1.1.0.0;
  above_rounds = all.1.1.1.1.1.1.0.1;
  at_most_newest = all.1.1.1.1.0;
}

of_plan : (plan : PlanOf) (past : List Entry) (e : Entry) → MayFollow plan past e → IsOfPlan plan e
of_plan plan past e may = rw may.honest.of_plan may.honest.mode

follow_passes : (plan : PlanOf) (past : List Entry) (e : Entry) → MayFollow plan past e → PassesAll plan past e
follow_passes plan past e may = (
  (may.worker, may.fresh),
  (of_plan plan past e may, (may.rounds, (may.rises, (may.at_most_newest, (may.never_falls, ((may.above_worker, may.above_rounds), (may.honest, tt))))))),
)

-- an entry that breaks a clause may not follow
pub broken : (plan : PlanOf) (past : List Entry) (e : Entry) (clause : ℕ) → Breaks plan past e clause → MayFollow plan past e → ⊥
broken plan past e clause breaks may = not_all (Passes plan past e) tests clause breaks (follow_passes plan past e may)

pub tests_are_following : TestsAreFollowing
tests_are_following plan past e =
    ((passes_follow plan past e, follow_passes plan past e), broken plan past e, one_first (Passes plan past e) tests)
