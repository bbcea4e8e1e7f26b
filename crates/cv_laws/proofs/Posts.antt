-- A world stands where a run in flight has ended and its entry is posted.
use Rattle.std.proofs.Common.{◌≡◌, ◌≤◌, ◌<◌, ℕ, true, List, ◌∷◌, Some, None, refl, sym, ap, ◌∙◌, subst, ⊎_elim, le_trans, eq-eqb, ne_eqb, le-ltb, arith}
use Rattle.std.specs.Prelude.{◌≢◌, ◌==◌, nat_lt, slice_get}
use Rattle.std.specs.List.{AllByRecursion}
use Rattle.std.proofs.lemmas.Bool.{cases_eq}
use Rattle.std.proofs.lemmas.Option.{none-some, same_Some, slice_get_within}
use Rattle.cv_base.specs.declared.entries.Entry.{Entry}
use Rattle.cv_base.specs.PlanOf.{PlanOf}
use Rattle.cv_histories.specs.Legal.{EarlierRoundsDone, MayFollow, floor_of, round_in, round_of}
use Rattle.cv_histories.specs.Versions.{ledger, newest}
use Rattle.cv_histories.specs.Flight.{Flight, flight_entry, has_ended}
use Rattle.cv_histories.specs.World.{World, current_round, drawn_after, numbers_of, post_with}
use Rattle.cv_laws.specs.WorldStands.{Has, IsAhead, IsFlying, WorldStands}
use Rattle.cv_laws.specs.Each.{weaker}
use Rattle.cv_laws.proofs.Flights.{ended_honest, grown_flies}
use Rattle.cv_laws.specs.RoundStatements.{IsOfRound}
use Rattle.cv_laws.proofs.RoundNumbers.{current_rises, current_stays, earlier_done, none_later}
use Rattle.cv_laws.proofs.Slots.{set_has, set_length}
use Rattle.cv_laws.proofs.VersionTables.{floor_stays, joined_all, joined_never_falls, newest_grows, tables_stay}

-- the draws go on where the current round stays
drawn_on : (plan : PlanOf) (before now : List Entry) (drawn round : ℕ) → current_round plan before ≡ Some round → current_round plan now ≡ Some round → drawn_after plan before now drawn ≡ drawn
drawn_on plan before now drawn round was is =
    rw (was, is, eq-eqb round round refl)

-- ---- the entry may follow

module _ (plan : PlanOf) (history : List Entry) (i : ℕ) (f : Flight) (flying : IsFlying plan history i f) where
  -- the entry is of its run's round
  entry_round : round_of plan (flight_entry plan i f) ≡ f.run.round
  entry_round = ap round_in flying.of_plan

  -- it keeps each rule of a legal history
  may_follow : i < plan.workers → has_ended plan f ≡ true → MayFollow plan history (flight_entry plan i f)
  may_follow worker ended = record {
    worker = worker;
    fresh = flying.fresh;
    rounds = subst (λ (r : ℕ). EarlierRoundsDone plan r history) (sym entry_round) (earlier_done plan history f.run.round flying.current);
    rises = subst (λ (r : ℕ). AllByRecursion (λ (o : Entry). round_of plan o ≡ r → o.worker ≡ i → o.run < f.number) history) (sym entry_round) flying.rises;
    honest = ended_honest plan (ledger plan history).versions i f flying.of_plan ended flying.flies;
    never_falls = joined_never_falls f.versions flying.falls;
    above_worker = joined_all (λ (v : ℕ). floor_of plan (λ (o : Entry). o.worker == i) history ≤ v) f.versions flying.above_worker;
    above_rounds = joined_all (λ (v : ℕ). floor_of plan (λ (o : Entry). nat_lt (round_of plan o) (round_of plan (flight_entry plan i f))) history ≤ v) f.versions
        (subst (λ (r : ℕ). AllByRecursion (λ (v : ℕ). floor_of plan (λ (o : Entry). nat_lt (round_of plan o) r) history ≤ v) f.versions) (sym entry_round) flying.above_rounds);
    at_most_newest = joined_all (λ (v : ℕ). v ≤ newest plan history) f.versions flying.at_most_newest;
  }

-- ---- the other runs in flight fly on

module _ (plan : PlanOf) (history : List Entry) (e : Entry) (j : ℕ) (g : Flight) (flying : IsFlying plan history j g) (fresh : e.run ≢ g.number) (same_round : round_of plan e ≡ g.run.round) (other : e.worker ≢ j) where
  -- another run in flight has no entry
  others_fresh : AllByRecursion (λ (o : Entry). o.run ≢ g.number) (e ∷ history)
  others_fresh = (fresh, flying.fresh)

  -- so its round stays current
  others_current : current_round plan (e ∷ history) ≡ Some g.run.round
  others_current =
      let of : IsOfRound plan g.run.round g.number = record { run = g.run; of_plan = flying.of_plan; in_round = refl } in
      current_stays plan history e g.run.round g.number flying.current of others_fresh

  -- the new entry is of another worker, so the floor of this one stays
  worker_floor : floor_of plan (λ (o : Entry). o.worker == j) (e ∷ history) ≡ floor_of plan (λ (o : Entry). o.worker == j) history
  worker_floor = floor_stays plan (λ (o : Entry). o.worker == j) history e (ne_eqb e.worker j other)

  -- and it is not of an earlier round, so the floor of these stays
  rounds_floor : floor_of plan (λ (o : Entry). nat_lt (round_of plan o) g.run.round) (e ∷ history) ≡ floor_of plan (λ (o : Entry). nat_lt (round_of plan o) g.run.round) history
  rounds_floor =
      floor_stays plan (λ (o : Entry). nat_lt (round_of plan o) g.run.round) history e (le-ltb (round_of plan e) g.run.round (omega arith))

  -- the other run in flight is as it should be
  others_fly : IsFlying plan (e ∷ history) j g
  others_fly = record {
    of_plan = flying.of_plan;
    fresh = others_fresh;
    current = others_current;
    rises = (λ same worker. absurd (other worker), flying.rises);
    falls = flying.falls;
    above_worker = subst (λ (n : ℕ). AllByRecursion (λ (v : ℕ). n ≤ v) g.versions) (sym worker_floor) flying.above_worker;
    above_rounds = subst (λ (n : ℕ). AllByRecursion (λ (v : ℕ). n ≤ v) g.versions) (sym rounds_floor) flying.above_rounds;
    at_most_newest = weaker (λ (v : ℕ). v ≤ newest plan history) (λ (v : ℕ). v ≤ newest plan (e ∷ history)) (λ v below. le_trans below (newest_grows plan history e)) g.versions flying.at_most_newest;
    flies = grown_flies plan (ledger plan history).versions (ledger plan (e ∷ history)).versions g (tables_stay plan history e) flying.flies;
  }

-- ---- the world after

module _ (plan : PlanOf) (w : World) (i : ℕ) (f : Flight) (stands : WorldStands plan w) (has : Has w i f) (ended : has_ended plan f ≡ true) where
  abbrev new : Entry
  new = flight_entry plan i f

  abbrev after : World
  after = post_with plan w i new

  -- the run that is posted
  mine : IsFlying plan w.history i f
  mine = stands.flying i f has

  -- a run that is still in flight was so in another slot
  abbrev Was : ℕ → Flight → Type 0
  Was j g = (i ≢ j) × Has w j g

  was : (j : ℕ) (g : Flight) → Has after j g → Was j g
  was j g at =
      ⊎_elim (λ is. absurd (none-some g is.1)) (λ there. there) (set_has w.flights i j None g at)

  -- it flies on
  flying_after : (j : ℕ) (g : Flight) → Was j g → IsFlying plan (new ∷ w.history) j g
  flying_after j g there =
      let old : IsFlying plan w.history j g = stands.flying j g there.1 in
      let round : f.run.round ≡ g.run.round = same_Some f.run.round g.run.round (sym mine.current ∙ old.current) in
      others_fly plan w.history new j g old
      (λ same. there.0 (stands.apart i j f g has there.1 same))
      (entry_round plan w.history i f mine ∙ round)
      there.0

  -- where the current round stays, a later draw is above the posted run too
  ahead_same : (k number : ℕ) → w.drawn ≤ k → slice_get (numbers_of plan f.run.round) k ≡ Some number → IsAhead plan after f.run.round number
  ahead_same k number low at =
      let old : IsAhead plan w f.run.round number = stands.ahead f.run.round k number mine.current low at in
      record {
        posted = (λ round. old.flying i f has, old.posted);
        flying = λ j g there. old.flying j g (was j g there).1;
      }

  -- a later round is new: no entry is of it, and no run is in flight
  ahead_later : (round number : ℕ) → current_round plan (new ∷ w.history) ≡ Some round → f.run.round < round → IsAhead plan after round number
  ahead_later round number now later = record {
    posted = (
      λ same. let there : round_of plan new ≡ f.run.round = entry_round plan w.history i f mine in absurd (omega arith),
      weaker (λ (o : Entry). round_of plan o ≤ f.run.round) (λ (o : Entry). round_of plan o ≡ round → o.run < number) (λ o below same. absurd (omega arith)) w.history
          (none_later plan w.history f.run.round stands.legal mine.current),
    );
    flying = λ j g there.
        let old : IsFlying plan w.history j g = stands.flying j g (was j g there).1 in
        let on : IsFlying plan (new ∷ w.history) j g = flying_after j g (was j g there) in
        let first : f.run.round ≡ g.run.round = same_Some f.run.round g.run.round (sym mine.current ∙ old.current) in
        let second : round ≡ g.run.round = same_Some round g.run.round (sym now ∙ on.current) in
        absurd (omega arith);
  }

  -- a later draw is above all runs of its round
  ahead_after : (round k number : ℕ) → current_round plan (new ∷ w.history) ≡ Some round → drawn_after plan w.history (new ∷ w.history) w.drawn ≤ k → slice_get (numbers_of plan round) k ≡ Some number → IsAhead plan after round number
  ahead_after round k number now low at =
      ⊎_elim
      (λ same.
      let drawn : drawn_after plan w.history (new ∷ w.history) w.drawn ≡ w.drawn = drawn_on plan w.history (new ∷ w.history) w.drawn round (mine.current ∙ ap Some same) now in
      subst (λ (r : ℕ). IsAhead plan after r number) same
      (ahead_same k number (subst (λ (n : ℕ). n ≤ k) drawn low) (subst (λ (r : ℕ). slice_get (numbers_of plan r) k ≡ Some number) (sym same) at)))
      (λ other.
      let rises : f.run.round ≤ round = current_rises plan w.history new f.run.round round mine.current now in
      ahead_later round number now (omega arith))
      (cases_eq f.run.round round)

  -- the entry may follow what was posted
  pub post_follows : MayFollow plan w.history new
  post_follows = may_follow plan w.history i f mine (omega (arith, slice_get_within w.flights i (Some f) has, stands.few)) ended

  -- a world stands through a posting
  pub post_stands : WorldStands plan after
  post_stands = record {
    legal = (post_follows, stands.legal);
    few = rw set_length stands.few;
    flying = λ j g at. flying_after j g (was j g at);
    apart = λ j k g h at at' e. stands.apart j k g h (was j g at).1 (was k h at').1 e;
    ahead = ahead_after;
  }
