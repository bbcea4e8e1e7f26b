-- A world at its start: no instance has a run.
use Rattle.std.proofs.Common.{◌≡◌, ◌≤◌, ℕ, zero, suc, List, [], ◌∷◌, Option, Some, None, refl, sym, ap, ◌∙◌, subst, replicate}
use Rattle.std.specs.Prelude.{slice_get}
use Rattle.std.proofs.lemmas.Option.{none-some, same_Some}
use Rattle.cv_base.specs.PlanOf.{PlanOf, IsPlan}
use Rattle.cv_histories.specs.Flight.{Flight}
use Rattle.cv_histories.specs.World.{start_world}
use Rattle.cv_laws.specs.Statements.{WorldsStand}
use Rattle.cv_laws.specs.WorldStands.{WorldStands}
use Rattle.cv_manager.specs.ManagerOf.{ManagerOf, empty_manager}
use Rattle.cv_world.specs.InstanceOf.{InstanceOf}
use Rattle.cv_world.specs.Stands.{IsInstance, IsWorld}
use Rattle.cv_world.proofs.Instances.{flights_of}
use Rattle.cv_world.proofs.Standing.{versions_in, world_in}

-- an instance without a run
abbrev pub idle : PlanOf → InstanceOf
idle plan = record { plan = plan; going = None }

-- each of such instances is one
idle_at : (plan : PlanOf) (n i : ℕ) (x : InstanceOf) → slice_get (replicate n (idle plan)) i ≡ Some x → idle plan ≡ x
idle_at plan zero i x at = absurd (none-some x at)
idle_at plan (suc n) zero x at = same_Some (idle plan) x at
idle_at plan (suc n) (suc i) x at = idle_at plan n i x at

-- they have nothing in flight
none_fly : (plan : PlanOf) (n : ℕ) → flights_of plan (replicate n (idle plan)) ≡ replicate n None
none_fly plan zero = refl
none_fly plan (suc n) = ap (λ (fs : List (Option Flight)). None ∷ fs) (none_fly plan n)

module _ (plan : PlanOf) (n : ℕ) (book : ManagerOf) (book_is : book ≡ empty_manager plan) (xs : List InstanceOf) (xs_are : xs ≡ replicate n (idle plan)) where
  -- it is the start
  started : world_in (empty_manager plan) 0 (replicate n (idle plan)) ≡ start_world n
  started = ap (λ (fs : List (Option Flight)). record { history = []; drawn = 0; flights = fs }) (none_fly plan n)

  pub start_is : world_in book 0 xs ≡ start_world n
  start_is = ap (λ (m : ManagerOf). world_in m 0 xs) book_is ∙ ap (λ (ys : List InstanceOf). world_in (empty_manager plan) 0 ys) xs_are ∙ started

  -- and it stands
  pub start_is_world : WorldsStand → IsPlan plan → n ≤ plan.workers → IsWorld book 0 xs
  start_is_world stand is few =
      let stands : IsWorld (empty_manager plan) 0 (replicate n (idle plan)) = record {
        plan_is = is;
        each = λ i x at. subst (λ (y : InstanceOf). IsInstance plan (versions_in (empty_manager plan)) i y) (idle_at plan n i x at) (record { plan_is = refl; run = tt });
        stands = subst (WorldStands plan) (sym started) ((stand plan).0 n few);
      } in
      subst (λ (m : ManagerOf). IsWorld m 0 xs) (sym book_is) (subst (λ (ys : List InstanceOf). IsWorld (empty_manager plan) 0 ys) (sym xs_are) stands)
