-- The run of an instance takes a turn.
use Rattle.std.proofs.Common.{◌≡◌, ℕ, true, false, List, Option, Some, None, refl, sym, ap, ◌∙◌, subst}
use Rattle.std.specs.Prelude.{IfSome, option_map, slice_get, slice_set}
use Rattle.cv_base.specs.PlanOf.{PlanOf}
use Rattle.cv_exec.specs.ArenaOf.{Going, one_more}
use Rattle.cv_histories.specs.Flight.{may_turn, turned}
use Rattle.cv_histories.specs.World.{Turn, World, event, event_at, with_flight}
use Rattle.cv_laws.specs.Statements.{WorldsStand}
use Rattle.cv_manager.specs.ManagerOf.{ManagerOf}
use Rattle.cv_exec.specs.ArenaOf.{flight_in}
use Rattle.cv_world.specs.InstanceOf.{InstanceOf, may_turn_in}
use Rattle.cv_world.specs.Stands.{IsGoing, IsInstance, IsWorld}
use Rattle.cv_world.proofs.Goings.{turn_same, turned_goes}
use Rattle.cv_world.proofs.Instances.{flight_at}
use Rattle.cv_world.proofs.Standing.{IsAloft, Leaves, aloft, if_disabled, if_enabled, put, put_stands, stands_after, versions_in, world_in}

module _ (book : ManagerOf) (drawn : ℕ) (xs : List InstanceOf) (is : IsWorld book drawn xs) (i : ℕ) (x : InstanceOf) (at : slice_get xs i ≡ Some x) where
  -- the plan of the instance is the book's
  plan_is : x.plan ≡ book.plan
  plan_is = (is.each i x at).plan_is

  -- the definitions ask the same of its run
  same : (g : Going) → x.going ≡ Some g → (a : IsAloft book drawn xs i g) → may_turn book.plan a.flight ≡ may_turn_in x.plan x.going
  same g has a =
      turn_same book.plan (versions_in book) i g a.goes a.flight a.in_flight
      ∙ ap (λ (p : PlanOf). may_turn_in p (Some g)) (sym plan_is) ∙ ap (λ (o : Option Going). may_turn_in x.plan o) (sym has)

  -- its run takes a turn where it may, by what the instance has
  leaves_by : WorldsStand → (o : Option Going) → x.going ≡ o → may_turn_in x.plan x.going ≡ true → (y : InstanceOf) → y ≡ record x { going = one_more x.going } → flight_in y.plan y.going ≡ option_map (turned x.plan) (flight_in x.plan x.going) → Leaves book drawn xs (Turn i) book drawn (slice_set xs i y)
  leaves_by stand None has may y turned' flies = let no : may_turn_in x.plan None ≡ true = subst (λ (o : Option Going). may_turn_in x.plan o ≡ true) has may in absurd cc
  leaves_by stand (Some g) has may y turned' flies =
      let a = aloft book drawn xs is i x g at has in
      let enabled : may_turn book.plan a.flight ≡ true = same g has a ∙ may in
      let going : y.going ≡ one_more (Some g) = ap (λ (z : InstanceOf). z.going) turned' ∙ ap one_more has in
      let in_flight : flight_in book.plan y.going ≡ Some (turned book.plan a.flight) =
      ap (λ (p : PlanOf). flight_in p y.going) (sym (ap (λ (z : InstanceOf). z.plan) turned' ∙ plan_is))
      ∙ flies
      ∙ ap (λ (p : PlanOf). option_map (turned p) (flight_in p x.going)) plan_is
      ∙ ap (λ (o : Option Going). option_map (turned book.plan) (flight_in book.plan o)) has
      ∙ ap (option_map (turned book.plan)) a.in_flight in
      let new : IsInstance book.plan (versions_in book) i y = record {
        plan_is = ap (λ (z : InstanceOf). z.plan) turned' ∙ plan_is;
        run = subst (λ (o : Option Going). IfSome o (IsGoing book.plan (versions_in book) i)) (sym going) (turned_goes book.plan (versions_in book) i g a.goes);
      } in
      let after : World = with_flight (world_in book drawn xs) i (Some (turned book.plan a.flight)) in
      let happens : event book.plan (world_in book drawn xs) (Turn i) ≡ Some after =
      ap (event_at book.plan (world_in book drawn xs) (Turn i)) a.there ∙ if_enabled (may_turn book.plan a.flight) after enabled in record {
        happens = happens ∙ ap Some (sym (put book drawn xs is book.past i y drawn (Some (turned book.plan a.flight)) in_flight));
        stands = put_stands book drawn xs is book.past i y drawn (Some (turned book.plan a.flight)) in_flight (λ j h goes. goes) new (stands_after stand book.plan (world_in book drawn xs) after (Turn i) is.stands happens);
      }

  -- whatever it has
  pub turn_leaves : WorldsStand → may_turn_in x.plan x.going ≡ true → (y : InstanceOf) → y ≡ record x { going = one_more x.going } → flight_in y.plan y.going ≡ option_map (turned x.plan) (flight_in x.plan x.going) → Leaves book drawn xs (Turn i) book drawn (slice_set xs i y)
  turn_leaves stand = leaves_by stand x.going refl

  -- and none where it may not, by what the instance has
  disabled_by : (o : Option Going) → x.going ≡ o → may_turn_in x.plan x.going ≡ false → event book.plan (world_in book drawn xs) (Turn i) ≡ None
  disabled_by None has may =
      ap (event_at book.plan (world_in book drawn xs) (Turn i)) (flight_at book.plan xs i x at ∙ ap (λ (o : Option Going). Some (flight_in book.plan o)) has)
  disabled_by (Some g) has may =
      let a = aloft book drawn xs is i x g at has in
      ap (event_at book.plan (world_in book drawn xs) (Turn i)) a.there
      ∙ if_disabled (may_turn book.plan a.flight) (with_flight (world_in book drawn xs) i (Some (turned book.plan a.flight))) (same g has a ∙ may)

  -- whatever it has
  pub turn_disabled : may_turn_in x.plan x.going ≡ false → event book.plan (world_in book drawn xs) (Turn i) ≡ None
  turn_disabled = disabled_by x.going refl
