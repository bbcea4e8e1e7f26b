-- The entry of an instance's run is posted.
use Rattle.std.proofs.Common.{◌≡◌, ℕ, true, false, List, ◌∷◌, Option, Some, None, refl, sym, ap, ◌∙◌, subst, eqb}
use Rattle.std.specs.Prelude.{◌≢◌, not, IfSome, slice_get, slice_set}
use Rattle.std.specs.Option.{option_eq}
use Rattle.std.proofs.lemmas.Bool.{both_ways, eq-eqb, eqb-true, ne_eqb, not-false, not-true}
use Rattle.std.proofs.lemmas.Option.{same_Some}
use Rattle.cv_base.specs.declared.entries.Entry.{Entry}
use Rattle.cv_base.specs.PlanOf.{PlanOf}
use Rattle.cv_exec.specs.ArenaOf.{Going, entry_of_going, is_over}
use Rattle.cv_histories.specs.Legal.{MayFollow}
use Rattle.cv_histories.specs.Flight.{flight_entry, has_ended}
use Rattle.cv_histories.specs.World.{Post, World, current_round, drawn_after, event, event_at, post_with}
use Rattle.cv_laws.specs.Statements.{EndedMayFollow, WorldsStand}
use Rattle.cv_laws.specs.VersionStatements.{TablesStay}
use Rattle.cv_manager.specs.ManagerOf.{ManagerOf, with_entry}
use Rattle.cv_exec.specs.ArenaOf.{flight_in}
use Rattle.cv_world.specs.InstanceOf.{InstanceOf}
use Rattle.cv_world.specs.Stands.{IsGoing, IsInstance, IsWorld}
use Rattle.cv_world.proofs.Goings.{ended_same, entry_same, grown_goes}
use Rattle.cv_world.proofs.Instances.{flight_at}
use Rattle.cv_world.proofs.Standing.{IsAloft, Leaves, aloft, if_disabled, if_enabled, put, put_stands, stands_after, versions_in, world_in}

-- ---- the draws

-- rounds that do not differ by the test are the same
same_round : (a b : Option ℕ) → not (option_eq eqb a b) ≡ false → a ≡ b
same_round None None test = refl
same_round None (Some n) test = absurd cc
same_round (Some m) None test = absurd cc
same_round (Some m) (Some n) test = ap Some (eqb-true m n (not-false (eqb m n) test))

-- and those that do are not
other_round : (a b : Option ℕ) → not (option_eq eqb a b) ≡ true → a ≢ b
other_round None None test same = absurd cc
other_round None (Some n) test same = absurd cc
other_round (Some m) None test same = absurd cc
other_round (Some m) (Some n) test same = both_ways (eqb m n) (not-true (eqb m n) test) (eq-eqb m n (same_Some m n same))

module _ (plan : PlanOf) (before now : List Entry) (drawn : ℕ) where
  -- they go on where the current round, of which there is one, stays
  drawn_on : (round : ℕ) → current_round plan before ≡ Some round → current_round plan now ≡ current_round plan before → drawn_after plan before now drawn ≡ drawn
  drawn_on round was same =
      let is : current_round plan now ≡ Some round = same ∙ was in
      rw (was, is, eq-eqb round round refl)

  -- and begin anew where another one is current or none is, by what is current
  anew_by : (a b : Option ℕ) → current_round plan before ≡ a → current_round plan now ≡ b → b ≢ a → drawn_after plan before now drawn ≡ 0
  anew_by None b was is differ = rw was
  anew_by (Some round) None was is differ = rw (was, is)
  anew_by (Some round) (Some next) was is differ = rw (was, is, ne_eqb round next (λ same. differ (ap Some (sym same))))

  -- whatever is current
  drawn_anew : current_round plan now ≢ current_round plan before → drawn_after plan before now drawn ≡ 0
  drawn_anew = anew_by (current_round plan before) (current_round plan now) refl refl

-- ---- the posting

module _ (book : ManagerOf) (drawn : ℕ) (xs : List InstanceOf) (is : IsWorld book drawn xs) (i : ℕ) (x : InstanceOf) (at : slice_get xs i ≡ Some x) where
  -- the world
  abbrev w : World
  w = world_in book drawn xs

  -- the plan of the instance is the book's
  pub post_plan : book.plan ≡ x.plan
  post_plan = sym (is.each i x at).plan_is

  -- the definitions ask the same of its run
  same : (g : Going) → x.going ≡ Some g → (a : IsAloft book drawn xs i g) → has_ended book.plan a.flight ≡ is_over x.plan x.going
  same g has a =
      ended_same book.plan (versions_in book) i g a.goes a.flight a.in_flight
      ∙ ap (λ (p : PlanOf). is_over p (Some g)) post_plan ∙ ap (λ (o : Option Going). is_over x.plan o) (sym has)

  -- its run has ended, with this flight and entry
  record IsDone : Type 0 where
    going : Going
    has : x.going ≡ Some going
    aloft_is : IsAloft book drawn xs i going
    ended : has_ended book.plan aloft_is.flight ≡ true
    entry : entry_of_going x.plan x.going ≡ Some (flight_entry book.plan i aloft_is.flight)

  -- by what the instance has
  done_by : (o : Option Going) → x.going ≡ o → is_over x.plan o ≡ true → IsDone
  done_by None has over = absurd cc
  done_by (Some g) has over =
      let a = aloft book drawn xs is i x g at has in
      record {
        going = g;
        has = has;
        aloft_is = a;
        ended = same g has a ∙ ap (λ (o : Option Going). is_over x.plan o) has ∙ over;
        entry =
            ap (λ (p : PlanOf). entry_of_going p x.going) (sym post_plan) ∙ ap (entry_of_going book.plan) has
            ∙ entry_same book.plan (versions_in book) i g a.goes a.flight a.in_flight;
      }

  -- whatever it has
  done : is_over x.plan x.going ≡ true → IsDone
  done = done_by x.going refl

  -- its entry may follow
  pub post_may : EndedMayFollow → is_over x.plan x.going ≡ true → IfSome (entry_of_going x.plan x.going) (MayFollow book.plan book.past)
  post_may follows over =
      let d = done over in
      subst (λ (o : Option Entry). IfSome o (MayFollow book.plan book.past)) (sym d.entry) (follows book.plan w i d.aloft_is.flight is.stands d.aloft_is.there d.ended)

  -- a run that has not ended is not posted, by what the instance has
  disabled_by : (o : Option Going) → x.going ≡ o → is_over x.plan o ≡ false → event book.plan w (Post i) ≡ None
  disabled_by None has goes_on =
      ap (event_at book.plan w (Post i)) (flight_at book.plan xs i x at ∙ ap (λ (o : Option Going). Some (flight_in book.plan o)) has)
  disabled_by (Some g) has goes_on =
      let a = aloft book drawn xs is i x g at has in
      ap (event_at book.plan w (Post i)) a.there
      ∙ if_disabled (has_ended book.plan a.flight) (post_with book.plan w i (flight_entry book.plan i a.flight)) (same g has a ∙ ap (λ (o : Option Going). is_over x.plan o) has ∙ goes_on)

  -- whatever it has
  pub post_disabled : is_over x.plan x.going ≡ false → event book.plan w (Post i) ≡ None
  post_disabled = disabled_by x.going refl

-- ---- once it is posted

module _ (stand : WorldsStand) (stay : TablesStay) (book : ManagerOf) (drawn : ℕ) (xs : List InstanceOf) (is : IsWorld book drawn xs) (i : ℕ) (x : InstanceOf) (at : slice_get xs i ≡ Some x) (over : is_over x.plan x.going ≡ true) (book' : ManagerOf) (posted : IfSome (entry_of_going x.plan x.going) (λ (e : Entry). book' ≡ with_entry book e)) (y : InstanceOf) (left : y ≡ record x { going = None }) where
  -- the run, with its flight
  abbrev one : IsDone book drawn xs is i x at
  one = done book drawn xs is i x at over

  -- the entry
  abbrev new : Entry
  new = flight_entry book.plan i one.aloft_is.flight

  -- the book after it
  book_is : book' ≡ with_entry book new
  book_is = subst (λ (o : Option Entry). IfSome o (λ (e : Entry). book' ≡ with_entry book e)) one.entry posted

  -- the draws after it
  abbrev next : ℕ
  next = drawn_after book.plan book.past (new ∷ book.past) drawn

  -- the instance has nothing in flight
  in_flight : flight_in book.plan y.going ≡ None
  in_flight = ap (λ (z : InstanceOf). flight_in book.plan z.going) left

  -- as it should be
  is_new : IsInstance book.plan (versions_in (with_entry book new)) i y
  is_new = record {
    plan_is = ap (λ (z : InstanceOf). z.plan) left ∙ (is.each i x at).plan_is;
    run = subst (λ (z : InstanceOf). IfSome z.going (IsGoing book.plan (versions_in (with_entry book new)) i)) (sym left) tt;
  }

  -- the world after it
  abbrev after : World
  after = post_with book.plan (world_in book drawn xs) i new

  -- the post leads to it
  happens : event book.plan (world_in book drawn xs) (Post i) ≡ Some after
  happens = ap (event_at book.plan (world_in book drawn xs) (Post i)) one.aloft_is.there ∙ if_enabled (has_ended book.plan one.aloft_is.flight) after one.ended

  -- and it stands
  leaves : Leaves book drawn xs (Post i) (with_entry book new) next (slice_set xs i y)
  leaves = record {
    happens = happens ∙ ap Some (sym (put book drawn xs is (new ∷ book.past) i y next None in_flight));
    stands = put_stands book drawn xs is (new ∷ book.past) i y next None in_flight
        (λ j g goes. grown_goes book.plan (versions_in book) (versions_in (with_entry book new)) j g (stay book.plan book.past new) goes)
        is_new (stands_after stand book.plan (world_in book drawn xs) after (Post i) is.stands happens);
  }

  -- with the draws that code keeps
  leaves_with : (n : ℕ) → next ≡ n → Leaves book drawn xs (Post i) book' n (slice_set xs i y)
  leaves_with n same =
      subst (λ (m : ManagerOf). Leaves book drawn xs (Post i) m n (slice_set xs i y)) (sym book_is)
      (subst (λ (k : ℕ). Leaves book drawn xs (Post i) (with_entry book new) k (slice_set xs i y)) same leaves)

  module _ (before now : Option ℕ) (was : before ≡ current_round book.plan book.past) (becomes : now ≡ current_round book'.plan book'.past) where
    -- the current round after it
    now_is : now ≡ current_round book.plan (new ∷ book.past)
    now_is = becomes ∙ ap (λ (m : ManagerOf). current_round m.plan m.past) book_is

    -- the round stays
    pub posted_on : not (option_eq eqb now before) ≡ false → Leaves book drawn xs (Post i) book' drawn (slice_set xs i y)
    posted_on test =
        let same : now ≡ before = same_round now before test in
        leaves_with drawn (drawn_on book.plan book.past (new ∷ book.past) drawn one.aloft_is.flight.run.round one.aloft_is.flying.current (sym now_is ∙ same ∙ was))

    -- the round changes
    pub posted_anew : not (option_eq eqb now before) ≡ true → Leaves book drawn xs (Post i) book' 0 (slice_set xs i y)
    posted_anew test = leaves_with 0 (drawn_anew book.plan book.past (new ∷ book.past) drawn (λ same. other_round now before test (now_is ∙ same ∙ sym was)))
