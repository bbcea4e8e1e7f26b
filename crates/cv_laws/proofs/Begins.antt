-- A world stands where an instance begins the next run of the current round.
use Rattle.std.proofs.Common.{◌≡◌, ◌≤◌, ◌<◌, ◌+◌, ℕ, Option, Some, None, refl, sym, ap, ◌∙◌, subst, inl, inr, ⊎_elim, arith}
use Rattle.std.specs.Prelude.{◌≢◌, option_map, slice_get, unwrap_or}
use Rattle.std.proofs.lemmas.Option.{same_Some}
use Rattle.cv_base.specs.declared.entries.Entry.{Entry}
use Rattle.cv_base.specs.PlanOf.{PlanOf}
use Rattle.cv_histories.specs.Legal.{round_in, round_of}
use Rattle.cv_histories.specs.Runs.{Run, run_at}
use Rattle.cv_histories.specs.Versions.{ledger}
use Rattle.cv_histories.specs.Flight.{Flight, begun}
use Rattle.cv_histories.specs.World.{World, begin_with, current_round, next_draw, numbers_of, with_flight}
use Rattle.cv_laws.specs.WorldStands.{IsAhead, IsFlying, WorldStands}
use Rattle.cv_laws.specs.Each.{weaker}
use Rattle.cv_laws.proofs.Flights.{begun_flies}
use Rattle.cv_laws.specs.RoundStatements.{IsOfRound}
use Rattle.cv_laws.proofs.RoundNumbers.{numbers_are, numbers_rise}
use Rattle.cv_laws.proofs.Slots.{IsOneOf, set_has, set_length}

module _ (plan : PlanOf) (w : World) (i : ℕ) (round number : ℕ) (run : Run) (stands : WorldStands plan w) (current : current_round plan w.history ≡ Some round) (drawn : slice_get (numbers_of plan round) w.drawn ≡ Some number) (of_plan : run_at plan number ≡ Some run) where
  abbrev new : Flight
  new = begun plan number run

  abbrev after : World
  after = record (with_flight w i (Some new)) { drawn = w.drawn + 1 }

  -- the new run is of the current round
  in_round : run.round ≡ round
  in_round =
      let of : IsOfRound plan round number = numbers_are plan round w.drawn number drawn in
      ap (λ (r : Run). r.round) (same_Some run of.run (sym of_plan ∙ of.of_plan)) ∙ of.in_round

  -- it is above all runs of its round that were drawn before
  ahead : IsAhead plan w round number
  ahead = stands.ahead round w.drawn number current (omega arith) drawn

  -- so an entry is not of it
  fresh_entry : (o : Entry) → (round_of plan o ≡ round → o.run < number) → o.run ≢ number
  fresh_entry o below same =
      let there : round_of plan o ≡ round = ap (λ (n : ℕ). round_in (run_at plan n)) same ∙ ap round_in of_plan ∙ in_round in
      let low : o.run < number = below there in
      omega arith

  -- it is in flight as it should be
  new_flying : IsFlying plan w.history i new
  new_flying = record {
    of_plan = of_plan;
    fresh = weaker (λ (o : Entry). round_of plan o ≡ round → o.run < number) (λ (o : Entry). o.run ≢ number) fresh_entry w.history ahead.posted;
    current = current ∙ ap Some (sym in_round);
    rises = weaker (λ (o : Entry). round_of plan o ≡ round → o.run < number) (λ (o : Entry). round_of plan o ≡ run.round → o.worker ≡ i → o.run < number)
        (λ o below same worker. below (same ∙ in_round)) w.history ahead.posted;
    falls = tt;
    above_worker = tt;
    above_rounds = tt;
    at_most_newest = tt;
    flies = begun_flies plan (ledger plan w.history).versions number run;
  }

  -- and so is each run in flight
  flying_after : (j : ℕ) (g : Flight) → IsOneOf w.flights i (Some new) j g → IsFlying plan w.history j g
  flying_after j g one =
      ⊎_elim
      (λ is. subst (IsFlying plan w.history j) (same_Some new g is.1) (subst (λ (k : ℕ). IsFlying plan w.history k new) is.0 new_flying))
      (λ was. stands.flying j g was.1)
      one

  -- its number
  number_of : (g : Flight) → Some new ≡ Some g → number ≡ g.number
  number_of g is = ap (λ (f : Flight). f.number) (same_Some new g is)

  -- the others have lower numbers, so their numbers are apart
  apart_after : (j k : ℕ) (g h : Flight) → IsOneOf w.flights i (Some new) j g → IsOneOf w.flights i (Some new) k h → g.number ≡ h.number → j ≡ k
  apart_after j k g h (inl is) (inl is') e = sym is.0 ∙ is'.0
  apart_after j k g h (inl is) (inr was) e = absurd (omega (arith, number_of g is.1, ahead.flying k h was.1))
  apart_after j k g h (inr was) (inl is) e = absurd (omega (arith, number_of h is.1, ahead.flying j g was.1))
  apart_after j k g h (inr was) (inr was') e = stands.apart j k g h was.1 was'.1 e

  -- a later draw is above the new run too
  ahead_after : (r k n : ℕ) → current_round plan w.history ≡ Some r → w.drawn + 1 ≤ k → slice_get (numbers_of plan r) k ≡ Some n → IsAhead plan after r n
  ahead_after r k n now low at =
      let old : IsAhead plan w r n = stands.ahead r k n now (omega arith) at in
      let same : round ≡ r = same_Some round r (sym current ∙ now) in
      let above : number < n = numbers_rise plan r w.drawn k number n (omega arith) (subst (λ (s : ℕ). slice_get (numbers_of plan s) w.drawn ≡ Some number) same drawn) at in
      record {
        posted = old.posted;
        flying = λ j g there.
            ⊎_elim
            (λ is. omega (arith, number_of g is.1))
            (λ was. old.flying j g was.1)
            (set_has w.flights i j (Some new) g there);
      }

  -- the world with the new run stands
  begun_stands : WorldStands plan after
  begun_stands = record {
    legal = stands.legal;
    few = rw set_length stands.few;
    flying = λ j g at. flying_after j g (set_has w.flights i j (Some new) g at);
    apart = λ j k g h at at'. apart_after j k g h (set_has w.flights i j (Some new) g at) (set_has w.flights i k (Some new) h at');
    ahead = ahead_after;
  }

module _ (plan : PlanOf) (w : World) (i : ℕ) (stands : WorldStands plan w) where
  -- by whether the plan has the run that is drawn
  of_run : (round number : ℕ) (r : Option Run) → current_round plan w.history ≡ Some round → slice_get (numbers_of plan round) w.drawn ≡ Some number → run_at plan number ≡ r
      → WorldStands plan (unwrap_or (option_map (λ (run : Run). record (with_flight w i (Some (begun plan number run))) { drawn = w.drawn + 1 }) r) w)
  of_run round number None current drawn is = stands
  of_run round number (Some run) current drawn is = begun_stands plan w i round number run stands current drawn is

  -- by whether the round has a run to draw
  of_number : (round : ℕ) (n : Option ℕ) → current_round plan w.history ≡ Some round → slice_get (numbers_of plan round) w.drawn ≡ n → WorldStands plan (unwrap_or (begin_with plan w i n) w)
  of_number round None current drawn = stands
  of_number round (Some number) current drawn = of_run round number (run_at plan number) current drawn refl

  -- by whether a round is current
  of_round : (r : Option ℕ) → current_round plan w.history ≡ r → WorldStands plan (unwrap_or (begin_with plan w i (next_draw plan w r)) w)
  of_round None current = stands
  of_round (Some round) current = of_number round (slice_get (numbers_of plan round) w.drawn) current refl

  -- a world stands through a beginning
  pub begin_stands : WorldStands plan (unwrap_or (begin_with plan w i (next_draw plan w (current_round plan w.history))) w)
  begin_stands = of_round (current_round plan w.history) refl
