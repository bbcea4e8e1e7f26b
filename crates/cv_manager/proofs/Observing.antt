-- What is learned from once an entry more was posted.
use Rattle.std.proofs.Common.{◌≡◌, Bool, true, false, cond, List, ◌∷◌, ◌++◌, Option, Some, None, refl, ap}
use Rattle.std.specs.List.{filter, flat_map}
use Rattle.std.specs.Prelude.{◌&&◌, if◌then◌else◌}
use Rattle.cv_base.specs.declared.ends.End.{End}
use Rattle.cv_base.specs.declared.ends.End.TheVariants.{Exit, Failure, Budget}
use Rattle.cv_base.specs.declared.ends.FailureId.{FailureId}
use Rattle.cv_base.specs.declared.entries.Entry.{Entry}
use Rattle.cv_base.specs.declared.entries.Observation.{Observation}
use Rattle.cv_base.specs.declared.plan.Mode.{Mode}
use Rattle.cv_base.specs.declared.plan.Mode.TheVariants.{Learn, Live}
use Rattle.cv_base.specs.PlanOf.{PlanOf}
use Rattle.cv_histories.specs.Runs.{run_at}
use Rattle.cv_histories.specs.Seen.{Seen, failure_at, is_exit, is_live, is_observed, is_unfired, live_failure, observed, observed_of}

module _ (plan : PlanOf) (s : Seen) (past : List Seen) where
  -- what is learned from, where the test of the entry has come out so
  abbrev observed_if : Bool → List Observation
  observed_if b =
      let rest = filter (λ (s : Seen). is_observed s.entry) past in
      flat_map (λ (s : Seen). observed_of plan (run_at plan s.entry.run)) (cond b (s ∷ rest) rest)

  by_test : (b : Bool) → observed_if b ≡ (if b then observed_of plan (run_at plan s.entry.run) ++ observed plan past else observed plan past)
  by_test true = refl
  by_test false = refl

  pub observed_now : observed plan (s ∷ past) ≡ (if is_observed s.entry then observed_of plan (run_at plan s.entry.run) ++ observed plan past else observed plan past)
  observed_now = by_test (is_observed s.entry)

  pub observed_same : is_observed s.entry ≡ false → observed plan (s ∷ past) ≡ observed plan past
  observed_same is = ap observed_if is

fails_live : (mode : Mode) (end : End) (unfired : Bool) (id : FailureId) → elim (is_live mode) as (λ _. Option FailureId) [ true ↦ failure_at end | false ↦ None ] ≡ Some id
    → (is_exit end && elim (is_live mode) as (λ _. Bool) [ true ↦ unfired | false ↦ true ]) ≡ false
fails_live Learn end unfired id is = cc
fails_live Live (Exit code) unfired id is = cc
fails_live Live (Failure failure detail) unfired id is = refl
fails_live Live Budget unfired id is = refl

-- a live entry that failed is not learned from
pub not_learned : (e : Entry) (id : FailureId) → live_failure e ≡ Some id → is_observed e ≡ false
not_learned e id is = fails_live e.mode e.end (is_unfired e.fired) id is
