-- A world that stands: an instance of it with its flight, and another instance put in its place.
use Rattle.std.proofs.Common.{◌≡◌, ◌≤◌, ℕ, Bool, true, false, List, length, Option, Some, None, refl, sym, ap, ◌∙◌, subst, ⊎_elim}
use Rattle.std.specs.Prelude.{IfSome, slice_get, slice_set, unwrap_or}
use Rattle.std.proofs.lemmas.Option.{IfSome_then}
use Rattle.cv_base.specs.declared.entries.Entry.{Entry}
use Rattle.cv_base.specs.PlanOf.{PlanOf}
use Rattle.cv_exec.specs.ArenaOf.{Going}
use Rattle.cv_histories.specs.Versions.{ledger}
use Rattle.cv_histories.specs.Flight.{Flight}
use Rattle.cv_histories.specs.World.{Event, Begin, Enter, Turn, Post, World, event, event_at, instance_of, with_flight}
use Rattle.cv_laws.specs.Statements.{WorldsStand}
use Rattle.cv_laws.specs.WorldStands.{Has, IsFlying, WorldStands}
use Rattle.cv_manager.specs.ManagerOf.{ManagerOf}
use Rattle.cv_runs.specs.PatchedRun.{Table}
use Rattle.cv_exec.specs.ArenaOf.{flight_in}
use Rattle.cv_world.specs.InstanceOf.{InstanceOf}
use Rattle.cv_world.specs.Stands.{IsGoing, IsInstance, IsWorld, world_with}
use Rattle.cv_world.specs.WorldOf.{world_of}
use Rattle.cv_world.proofs.Goings.{flies_there}
use Rattle.cv_world.proofs.Instances.{flight_at, none_past, set_flights, set_one}

-- the world of a book, its draws and its instances
abbrev pub world_in : ManagerOf → ℕ → List InstanceOf → World
world_in book drawn xs = world_of (world_with book drawn xs)

abbrev pub versions_in : ManagerOf → List Table
versions_in book = (ledger book.plan book.past).versions

-- an event leaves a world that stands
pub record Leaves (book : ManagerOf) (drawn : ℕ) (xs : List InstanceOf) (e : Event) (book' : ManagerOf) (drawn' : ℕ) (xs' : List InstanceOf) : Type 0 where
  pub happens : event book.plan (world_in book drawn xs) e ≡ Some (world_in book' drawn' xs')
  pub stands : IsWorld book' drawn' xs'

-- the world after an event that happens stands too
pub stands_after : WorldsStand → (plan : PlanOf) (w after : World) (e : Event) → WorldStands plan w → event plan w e ≡ Some after → WorldStands plan after
stands_after stand plan w after e stands happens = subst (λ (o : Option World). WorldStands plan (unwrap_or o w)) happens ((stand plan).1 w e stands)

-- what comes of a test that holds, and of one that fails
pub if_enabled : (b : Bool) (w : World) → b ≡ true → ◌≡◌ {A = Option World} (elim b [ true ↦ Some w | false ↦ None ]) (Some w)
if_enabled true w is = refl
if_enabled false w is = absurd cc

pub if_disabled : (b : Bool) (w : World) → b ≡ false → ◌≡◌ {A = Option World} (elim b [ true ↦ Some w | false ↦ None ]) None
if_disabled true w is = absurd cc
if_disabled false w is = refl

-- past the last instance no event is enabled
pub past_disabled : (book : ManagerOf) (drawn : ℕ) (xs : List InstanceOf) (e : Event) → length xs ≤ instance_of e → event book.plan (world_in book drawn xs) e ≡ None
past_disabled book drawn xs (Begin i) past = ap (event_at book.plan (world_in book drawn xs) (Begin i)) (none_past book.plan xs i past)
past_disabled book drawn xs (Enter i) past = ap (event_at book.plan (world_in book drawn xs) (Enter i)) (none_past book.plan xs i past)
past_disabled book drawn xs (Turn i) past = ap (event_at book.plan (world_in book drawn xs) (Turn i)) (none_past book.plan xs i past)
past_disabled book drawn xs (Post i) past = ap (event_at book.plan (world_in book drawn xs) (Post i)) (none_past book.plan xs i past)

-- instance i has this run, with its flight
pub record IsAloft (book : ManagerOf) (drawn : ℕ) (xs : List InstanceOf) (i : ℕ) (g : Going) : Type 0 where
  pub flight : Flight
  pub goes : IsGoing book.plan (versions_in book) i g
  pub in_flight : flight_in book.plan (Some g) ≡ Some flight
  pub there : Has (world_in book drawn xs) i flight
  pub flying : IsFlying book.plan book.past i flight

module _ (book : ManagerOf) (drawn : ℕ) (xs : List InstanceOf) (is : IsWorld book drawn xs) where
  -- the run of an instance is in flight
  pub aloft : (i : ℕ) (x : InstanceOf) (g : Going) → slice_get xs i ≡ Some x → x.going ≡ Some g → IsAloft book drawn xs i g
  aloft i x g at has =
      let goes : IsGoing book.plan (versions_in book) i g = subst (λ (o : Option Going). IfSome o (IsGoing book.plan (versions_in book) i)) has (is.each i x at).run in
      let flies = flies_there book.plan (versions_in book) i g goes in
      let there : Has (world_in book drawn xs) i flies.0 = flight_at book.plan xs i x at ∙ ap (λ (o : Option Going). Some (flight_in book.plan o)) has ∙ ap Some flies.1 in
      record { flight = flies.0; goes = goes; in_flight = flies.1; there = there; flying = is.stands.flying i flies.0 there }

  -- the world with another instance at place i, after this history
  pub put : (past : List Entry) (i : ℕ) (y : InstanceOf) (next : ℕ) (f : Option Flight) → flight_in book.plan y.going ≡ f → world_in (record book { past = past }) next (slice_set xs i y) ≡ record (with_flight (world_in book drawn xs) i f) { history = past; drawn = next }
  put past i y next f in_flight =
      ap (λ (fs : List (Option Flight)). record { history = past; drawn = next; flights = fs }) (set_flights book.plan xs i y)
      ∙ ap (λ (o : Option Flight). record (with_flight (world_in book drawn xs) i o) { history = past; drawn = next }) in_flight

  -- it stands where the world of the definitions does, and the other runs go on
  pub put_stands : (past : List Entry) (i : ℕ) (y : InstanceOf) (next : ℕ) (f : Option Flight) → flight_in book.plan y.going ≡ f
      → ((j : ℕ) (g : Going) → IsGoing book.plan (versions_in book) j g → IsGoing book.plan (versions_in (record book { past = past })) j g)
      → IsInstance book.plan (versions_in (record book { past = past })) i y
      → WorldStands book.plan (record (with_flight (world_in book drawn xs) i f) { history = past; drawn = next })
      → IsWorld (record book { past = past }) next (slice_set xs i y)
  put_stands past i y next f in_flight on new stands = record {
    plan_is = is.plan_is;
    each = λ j z at.
        ⊎_elim
        (λ is_new. subst (λ (k : ℕ). IsInstance book.plan (versions_in (record book { past = past })) k z) is_new.0 (subst (λ (u : InstanceOf). IsInstance book.plan (versions_in (record book { past = past })) i u) is_new.1 new))
        (λ was. let old = is.each j z was in record { plan_is = old.plan_is; run = IfSome_then z.going old.run (λ g goes. on j g goes) })
        (set_one xs i j y z at);
    stands = subst (WorldStands book.plan) (sym (put past i y next f in_flight)) stands;
  }
