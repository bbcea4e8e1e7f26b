-- An instance takes the next run of the current round.
use Rattle.std.proofs.Common.{◌≡◌, ◌≤◌, ◌<◌, ◌+◌, ℕ, true, false, List, [], ◌∷◌, length, Option, Some, None, refl, sym, ap, ◌∙◌, subst, arith}
use Rattle.std.specs.Prelude.{◌==◌, IfSome, IsSome, is_some, option_map, slice_get, slice_set}
use Rattle.std.proofs.lemmas.Bool.{cond_both}
use Rattle.std.proofs.lemmas.Option.{slice_get_within}
use Rattle.cv_base.specs.PlanOf.{PlanOf, IsPlan}
use Rattle.cv_exec.specs.ArenaOf.{Going}
use Rattle.cv_histories.specs.Runs.{Run, run_at, runs}
use Rattle.cv_histories.specs.Flight.{begun}
use Rattle.cv_histories.specs.World.{Begin, World, begin_with, current_round, event, event_at, next_draw, numbers_from, numbers_of, with_flight}
use Rattle.cv_laws.specs.RoundStatements.{IsOfRound, NumbersAreOfRound, RunsAreCounted}
use Rattle.cv_laws.specs.Statements.{WorldsStand}
use Rattle.cv_manager.specs.ManagerOf.{ManagerOf}
use Rattle.cv_exec.specs.ArenaOf.{flight_in}
use Rattle.cv_world.specs.InstanceOf.{InstanceOf}
use Rattle.cv_world.specs.Stands.{IsGoing, IsInstance, IsWorld, world_with}
use Rattle.cv_world.specs.WorldOf.{WorldOf, world_of}
use Rattle.cv_world.proofs.Goings.{taken, taken_goes}
use Rattle.cv_world.proofs.Instances.{flight_at}
use Rattle.cv_world.proofs.Standing.{Leaves, aloft, put, put_stands, stands_after, versions_in, world_in}

-- ---- the run that is drawn

-- the numbers of a round are at most as many as there are runs
few_from : (n : ℕ) (rs : List Run) (round : ℕ) → length (numbers_from n rs round) ≤ length rs
few_from n [] round = omega arith
few_from n (r ∷ rs) round =
    let rest = few_from (n + 1) rs round in
    cond_both (r.round == round) (n ∷ numbers_from (n + 1) rs round) (numbers_from (n + 1) rs round) (λ (numbers : List ℕ). length numbers ≤ length (r ∷ rs)) (λ same. omega arith) (λ differ. omega arith)

-- a run of the plan that is drawn; few were drawn before it
record IsDrawn (plan : PlanOf) (drawn number : ℕ) : Type 0 where
  run : Run
  of_plan : run_at plan number ≡ Some run
  few : drawn < 1024

-- by whether a round is current
drawn_by : NumbersAreOfRound → RunsAreCounted → (plan : PlanOf) → IsPlan plan → (w : World) (number : ℕ) (r : Option ℕ) → next_draw plan w r ≡ Some number → IsDrawn plan w.drawn number
drawn_by numbers_are counted plan is w number None draw = absurd cc
drawn_by numbers_are counted plan is w number (Some round) draw =
    let of : IsOfRound plan round number = numbers_are plan round w.drawn number draw in
    let within : w.drawn < length (numbers_of plan round) = slice_get_within (numbers_of plan round) w.drawn number draw in
    let numbers : length (numbers_of plan round) ≤ length (runs plan) = few_from 0 (runs plan) round in
    let all = counted plan plan.rounds refl in
    let most = is.few_runs in
    record { run = of.run; of_plan = of.of_plan; few = omega arith }

-- what a world draws next
abbrev next_of : WorldOf → Option ℕ
next_of w = next_draw w.plan (world_of w) (current_round w.plan w.history)

module _ (book : ManagerOf) (drawn : ℕ) (xs : List InstanceOf) (is : IsWorld book drawn xs) (w : WorldOf) (same : world_with book drawn xs ≡ w) (number : ℕ) (draw : Some number ≡ next_of w) where
  -- the parts of the world draw it
  pub draws : next_of (world_with book drawn xs) ≡ Some number
  draws = sym (draw ∙ ap next_of (sym same))

  -- by the laws of rounds
  module _ (numbers_are : NumbersAreOfRound) (counted : RunsAreCounted) where
    -- it is drawn
    is_drawn : IsDrawn book.plan drawn number
    is_drawn = drawn_by numbers_are counted book.plan is.plan_is (world_in book drawn xs) number (current_round book.plan book.past) draws

    -- few were drawn before
    pub few_drawn : drawn < 1024
    few_drawn = is_drawn.few

    -- it is a run of the plan
    pub drawn_run : (plan : PlanOf) → plan ≡ book.plan → IsSome (run_at plan number)
    drawn_run plan plan_is = subst (λ (o : Option Run). IsSome o) (sym (ap (λ (p : PlanOf). run_at p number) plan_is ∙ is_drawn.of_plan)) refl

-- ---- it begins

-- what does not have a value is none
none_from : {A : Type 0} (o : Option A) → is_some o ≡ false → o ≡ None
none_from None is_none = refl
none_from (Some x) is_none = absurd cc

module _ (book : ManagerOf) (drawn : ℕ) (xs : List InstanceOf) (is : IsWorld book drawn xs) (i : ℕ) (x : InstanceOf) (at : slice_get xs i ≡ Some x) where
  -- the world
  abbrev w : World
  w = world_in book drawn xs

  -- what is drawn next
  abbrev draw : Option ℕ
  draw = next_of (world_with book drawn xs)

  -- an instance without a run
  idle : is_some x.going ≡ false → event book.plan w (Begin i) ≡ begin_with book.plan w i draw
  idle free =
      ap (event_at book.plan w (Begin i)) (flight_at book.plan xs i x at ∙ ap (λ (o : Option Going). Some (flight_in book.plan o)) (none_from x.going free))

  -- it begins the run that is drawn
  pub begin_leaves : NumbersAreOfRound → RunsAreCounted → WorldsStand → (number : ℕ) → is_some x.going ≡ false → draw ≡ Some number → (y : InstanceOf) → y ≡ record x { going = Some (taken number i) } → flight_in y.plan y.going ≡ option_map (λ (r : Run). begun x.plan number r) (run_at x.plan number) → Leaves book drawn xs (Begin i) book (drawn + 1) (slice_set xs i y)
  begin_leaves numbers_are counted stand number free drawn_is y begun' flies =
      let next : IsDrawn book.plan drawn number = drawn_by numbers_are counted book.plan is.plan_is w number (current_round book.plan book.past) drawn_is in
      let f = Some (begun book.plan number next.run) in
      let after : World = record (with_flight w i f) { drawn = drawn + 1 } in
      let begins : event book.plan w (Begin i) ≡ Some after =
      idle free
      ∙ ap (begin_with book.plan w i) drawn_is
      ∙ ap (option_map (λ (run : Run). record (with_flight w i (Some (begun book.plan number run))) { drawn = drawn + 1 })) next.of_plan in
      let in_flight : flight_in book.plan y.going ≡ f =
      ap (λ (p : PlanOf). flight_in p y.going) (sym (ap (λ (z : InstanceOf). z.plan) begun' ∙ (is.each i x at).plan_is))
      ∙ flies
      ∙ ap (λ (p : PlanOf). option_map (λ (r : Run). begun p number r) (run_at p number)) (is.each i x at).plan_is
      ∙ ap (option_map (λ (r : Run). begun book.plan number r)) next.of_plan in
      let new : IsInstance book.plan (versions_in book) i y = record {
        plan_is = ap (λ (z : InstanceOf). z.plan) begun' ∙ (is.each i x at).plan_is;
        run = subst (λ (z : InstanceOf). IfSome z.going (IsGoing book.plan (versions_in book) i)) (sym begun') (taken_goes book.plan (versions_in book) number i next.run next.of_plan);
      } in
      record {
        happens = begins ∙ ap Some (sym (put book drawn xs is book.past i y (drawn + 1) f in_flight));
        stands = put_stands book drawn xs is book.past i y (drawn + 1) f in_flight (λ j h goes. goes) new (stands_after stand book.plan w after (Begin i) is.stands begins);
      }

  -- an instance with a run begins none, by what it has
  busy_by : (o : Option Going) → x.going ≡ o → is_some o ≡ true → event book.plan w (Begin i) ≡ None
  busy_by None has busy = absurd cc
  busy_by (Some g) has busy = ap (event_at book.plan w (Begin i)) (aloft book drawn xs is i x g at has).there

  -- whatever it has
  pub begin_busy : is_some x.going ≡ true → event book.plan w (Begin i) ≡ None
  begin_busy = busy_by x.going refl
