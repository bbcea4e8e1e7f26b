-- The run of an instance enters a block under the newest version.
use Rattle.std.proofs.Common.{◌≡◌, ◌-◌, ℕ, true, false, List, length, Option, Some, None, refl, sym, ap, ◌∙◌, subst}
use Rattle.std.specs.Prelude.{IfSome, option_map, slice_get, slice_set}
use Rattle.cv_base.specs.PlanOf.{PlanOf}
use Rattle.cv_exec.specs.ArenaOf.{Going, adopted_in, entered, wants}
use Rattle.cv_exec.specs.LiveRun.{MayAdopt}
use Rattle.cv_histories.specs.Versions.{ledger, newest, newest_of}
use Rattle.cv_histories.specs.Flight as flight
use Rattle.cv_histories.specs.Flight.{may_enter}
use Rattle.cv_histories.specs.World.{Enter, World, entered_with, event, event_at, with_flight}
use Rattle.cv_laws.specs.Statements.{WorldsStand}
use Rattle.cv_laws.specs.VersionStatements.{NewestIsLast, SomeVersion}
use Rattle.cv_manager.specs.ManagerOf.{ManagerOf}
use Rattle.cv_runs.specs.PatchedRun.{Table}
use Rattle.cv_exec.specs.ArenaOf.{flight_in}
use Rattle.cv_world.specs.InstanceOf.{InstanceOf}
use Rattle.cv_world.specs.Stands.{IsGoing, IsInstance, IsWorld}
use Rattle.cv_world.proofs.Goings.{enter_same, entered_goes, may_adopt}
use Rattle.cv_world.proofs.Instances.{flight_at}
use Rattle.cv_world.proofs.Standing.{IsAloft, Leaves, aloft, if_disabled, if_enabled, put, put_stands, stands_after, versions_in, world_in}

module _ (book : ManagerOf) (drawn : ℕ) (xs : List InstanceOf) (is : IsWorld book drawn xs) (i : ℕ) (x : InstanceOf) (at : slice_get xs i ≡ Some x) where
  -- the plan of the instance is the book's
  plan_is : x.plan ≡ book.plan
  plan_is = (is.each i x at).plan_is

  -- the definitions ask the same of its run
  same : (g : Going) → x.going ≡ Some g → (a : IsAloft book drawn xs i g) → may_enter book.plan a.flight ≡ wants x.plan x.going
  same g has a =
      enter_same book.plan (versions_in book) i g a.goes a.flight a.in_flight
      ∙ ap (λ (p : PlanOf). wants p (Some g)) (sym plan_is) ∙ ap (λ (o : Option Going). wants x.plan o) (sym has)

  -- by the laws of versions
  module _ (some : SomeVersion) (newest_last : NewestIsLast) where
    -- the newest table is that of the last version
    last : slice_get (versions_in book) (length (versions_in book) - 1) ≡ Some (newest_of (versions_in book))
    last = newest_last (versions_in book) (some book.plan book.past)

    -- a run that wants a version may adopt the newest one, by what the instance has
    may_by : (o : Option Going) → x.going ≡ o → wants x.plan o ≡ true → MayAdopt (newest book.plan book.past) (newest_of (versions_in book)) (adopted_in o)
    may_by None has wanted = absurd cc
    may_by (Some g) has wanted =
        let a = aloft book drawn xs is i x g at has in
        may_adopt book.plan (versions_in book) i g a.goes last

    -- whatever it has
    pub enter_may : wants x.plan x.going ≡ true → (version : ℕ) (t : Table) → version ≡ newest book.plan book.past → t ≡ newest_of (versions_in book) → MayAdopt version t (adopted_in x.going)
    enter_may wanted version t number table_is = rw (number, table_is) (may_by x.going refl wanted)

    -- then it enters, by what the instance has
    leaves_by : WorldsStand → (o : Option Going) → x.going ≡ o → wants x.plan o ≡ true → (y : InstanceOf) → y ≡ record x { going = entered (newest book.plan book.past) (newest_of (versions_in book)) x.going } → flight_in y.plan y.going ≡ option_map (flight.entered (newest book.plan book.past) (newest_of (versions_in book))) (flight_in x.plan x.going) → Leaves book drawn xs (Enter i) book drawn (slice_set xs i y)
    leaves_by stand None has wanted y entered' flies = absurd cc
    leaves_by stand (Some g) has wanted y entered' flies =
        let a = aloft book drawn xs is i x g at has in
        let l = ledger book.plan book.past in
        let enabled : may_enter book.plan a.flight ≡ true = same g has a ∙ ap (λ (o : Option Going). wants x.plan o) has ∙ wanted in
        let going : y.going ≡ entered (newest book.plan book.past) (newest_of (versions_in book)) (Some g) =
        ap (λ (z : InstanceOf). z.going) entered' ∙ ap (entered (newest book.plan book.past) (newest_of (versions_in book))) has in
        let in_flight : flight_in book.plan y.going ≡ Some (entered_with l a.flight) =
        ap (λ (p : PlanOf). flight_in p y.going) (sym (ap (λ (z : InstanceOf). z.plan) entered' ∙ plan_is))
        ∙ flies
        ∙ ap (λ (p : PlanOf). option_map (flight.entered (newest book.plan book.past) (newest_of (versions_in book))) (flight_in p x.going)) plan_is
        ∙ ap (λ (o : Option Going). option_map (flight.entered (newest book.plan book.past) (newest_of (versions_in book))) (flight_in book.plan o)) has
        ∙ ap (option_map (flight.entered (newest book.plan book.past) (newest_of (versions_in book)))) a.in_flight in
        let new : IsInstance book.plan (versions_in book) i y = record {
          plan_is = ap (λ (z : InstanceOf). z.plan) entered' ∙ plan_is;
          run = subst (λ (o : Option Going). IfSome o (IsGoing book.plan (versions_in book) i)) (sym going) (entered_goes book.plan (versions_in book) i g a.goes last);
        } in
        let after : World = with_flight (world_in book drawn xs) i (Some (entered_with l a.flight)) in
        let happens : event book.plan (world_in book drawn xs) (Enter i) ≡ Some after =
        ap (event_at book.plan (world_in book drawn xs) (Enter i)) a.there ∙ if_enabled (may_enter book.plan a.flight) after enabled in record {
          happens = happens ∙ ap Some (sym (put book drawn xs is book.past i y drawn (Some (entered_with l a.flight)) in_flight));
          stands = put_stands book drawn xs is book.past i y drawn (Some (entered_with l a.flight)) in_flight (λ j h goes. goes) new (stands_after stand book.plan (world_in book drawn xs) after (Enter i) is.stands happens);
        }

    -- whatever it has
    pub enter_leaves : WorldsStand → wants x.plan x.going ≡ true → (version : ℕ) (t : Table) → version ≡ newest book.plan book.past → t ≡ newest_of (versions_in book) → (y : InstanceOf) → y ≡ record x { going = entered version t x.going }
        → flight_in y.plan y.going ≡ option_map (flight.entered version t) (flight_in x.plan x.going)
        → Leaves book drawn xs (Enter i) book drawn (slice_set xs i y)
    enter_leaves stand wanted version t number table_is y entered' flies = leaves_by stand x.going refl wanted y (rw (number, table_is) at entered') (rw (number, table_is) at flies)

  -- a run that wants none does not, by what the instance has
  disabled_by : (o : Option Going) → x.going ≡ o → wants x.plan o ≡ false → event book.plan (world_in book drawn xs) (Enter i) ≡ None
  disabled_by None has wanted =
      ap (event_at book.plan (world_in book drawn xs) (Enter i)) (flight_at book.plan xs i x at ∙ ap (λ (o : Option Going). Some (flight_in book.plan o)) has)
  disabled_by (Some g) has wanted =
      let a = aloft book drawn xs is i x g at has in
      ap (event_at book.plan (world_in book drawn xs) (Enter i)) a.there
      ∙ if_disabled (may_enter book.plan a.flight) (with_flight (world_in book drawn xs) i (Some (entered_with (ledger book.plan book.past) a.flight))) (same g has a ∙ ap (λ (o : Option Going). wants x.plan o) has ∙ wanted)

  -- whatever it has
  pub enter_disabled : wants x.plan x.going ≡ false → event book.plan (world_in book drawn xs) (Enter i) ≡ None
  enter_disabled = disabled_by x.going refl
