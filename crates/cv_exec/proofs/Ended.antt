-- A started run that has ended: its entry.
use Rattle.std.proofs.Common.{◌≡◌, ◌<◌, ◌≤◌, ℕ, true, false, List, [], length, Option, Some, None, refl, sym, ap, ◌∙◌, subst, arith}
use Rattle.std.specs.Prelude.{reverse, option_map, IsSome}
use Rattle.std.proofs.lemmas.List.{length-map, length-reverse, reverse-reverse}
use Rattle.std.proofs.lemmas.Option.{same_Some}
use Rattle.cv_base.specs.declared.ends.End.{End}
use Rattle.cv_base.specs.declared.entries.Entry.{Entry}
use Rattle.cv_base.specs.declared.plan.Mode.TheVariants.{Learn}
use Rattle.cv_base.specs.PlanOf.{PlanOf}
use Rattle.cv_exec.specs.declared.ending.Account.{Account}
use Rattle.cv_exec.specs.declared.flying.Flying.{Flying}
use Rattle.cv_exec.specs.declared.flying.Flying.TheVariants.{Nothing, Learning, Living}
use Rattle.cv_exec.specs.declared.flying.Started.{Started}
use Rattle.cv_exec.specs.declared.patched.Patched.{Patched}
use Rattle.cv_exec.specs.ArenaOf.{adopted_in, entry_of_going, seen_so_far}
use Rattle.cv_exec.specs.InFlightStands.{EndedSo, IsStarted, Keeps, Stands, StandsBy, ending_of, going_of, going_with, with_end}
use Rattle.cv_exec.specs.Ending.{IsTold, ended_entry, live_told, plain_told}
use Rattle.cv_exec.specs.LiveRun.{HaveTables, Span, adoptions_of, rows_of}
use Rattle.cv_exec.specs.RecordOf.{IsHonestUnder}
use Rattle.cv_exec.proofs.Adopting.{adoptions_are}
use Rattle.cv_exec.proofs.Standing.{flight_is, learn_seen, live_unseen}
use Rattle.cv_histories.specs.Flight.{Flight, begun, done_in, flight_entry, flown, has_ended, joined}
use Rattle.cv_histories.specs.Honest.{IsHonest}
use Rattle.cv_histories.specs.Legal.{NeverFalls}
use Rattle.cv_histories.specs.Rows.{sites_in}
use Rattle.cv_histories.specs.Runs.{Run, run_at}
use Rattle.cv_histories.specs.Seen.{is_live, observed_of}
use Rattle.cv_laws.specs.Statements.{FlownIsHonest, FlownIsPlain, RowsAreJoined}
use Rattle.cv_machine.specs.Held.{Held}
use Rattle.cv_runs.specs.Learned.{observations}
use Rattle.cv_runs.specs.PatchedRun.{Table, steps_of}
use Rattle.cv_runs.specs.PlainRun.{Step, end_of, plain_run, state_left}
use Rattle.cv_runs.specs.State.{start_state}

-- what is known of the entry of a run that has ended
pub record IsEntryOf (plan : PlanOf) (flying : Flying) (e : Entry) : Type 0 where
  pub entry : entry_of_going plan (going_of flying) ≡ Some e
  pub honest : IsHonestUnder plan (adopted_in (going_of flying)) e
  pub rows : rows_of (adopted_in (going_of flying)) ≡ e.adopted
  pub rises : NeverFalls e.adopted
  pub going : going_of flying ≡ Some (record { run = e.run; worker = e.worker; turns = e.turns; adopted = adopted_in (going_of flying) })
  pub learned : is_live e.mode ≡ false → seen_so_far plan (going_of flying) ≡ observed_of plan (run_at plan e.run)
  pub unseen : is_live e.mode ≡ true → seen_so_far plan (going_of flying) ≡ []
  pub there : IsSome (run_at plan e.run)
  pub turns : e.turns ≤ plan.budget
  pub worker : e.worker < plan.workers

-- entries with the same parts are the same
same_entry : (a b : Entry) → a.run ≡ b.run → a.worker ≡ b.worker → a.mode ≡ b.mode → a.adopted ≡ b.adopted → a.end ≡ b.end → a.turns ≡ b.turns → a.sites ≡ b.sites → a.output ≡ b.output → a.tally ≡ b.tally → a.fired ≡ b.fired → a ≡ b
same_entry a b run worker mode adopted end turns sites output tally fired =
    ap (λ n. record a { run = n }) run
    ∙ ap (λ n. record a { run = b.run; worker = n }) worker
    ∙ ap (λ m. record a { run = b.run; worker = b.worker; mode = m }) mode
    ∙ ap (λ l. record a { run = b.run; worker = b.worker; mode = b.mode; adopted = l }) adopted
    ∙ ap (λ e. record a { run = b.run; worker = b.worker; mode = b.mode; adopted = b.adopted; end = e }) end
    ∙ ap (λ n. record a { run = b.run; worker = b.worker; mode = b.mode; adopted = b.adopted; end = b.end; turns = n }) turns
    ∙ ap (λ l. record b { sites = l; output = a.output; tally = a.tally; fired = a.fired }) sites
    ∙ ap (λ l. record b { output = l; tally = a.tally; fired = a.fired }) output
    ∙ ap (λ l. record b { tally = l; fired = a.fired }) tally
    ∙ ap (λ l. record b { fired = l }) fired

-- ---- a started run and its end

abbrev IsPair : Started → Started → End → Type 0
IsPair s g end = (s ≡ g) × (s.end ≡ Some end)

pair_by : (s g : Started) (end : End) (o : Option End) → s.end ≡ o → option_map {U = Started × End} (λ (e : End). (s, e)) o ≡ Some (g, end) → IsPair s g end
pair_by s g end None at is = cc
pair_by s g end (Some e) at is =
    let same = same_Some {A = Started × End} (s, e) (g, end) is in
    (ap (λ (x : Started × End). x.0) same, at ∙ ap (λ (x : Started × End). Some x.1) same)

pair : (s g : Started) (end : End) → with_end s ≡ Some (g, end) → IsPair s g end
pair s g end is = pair_by s g end s.end refl is

module _ (honest_law : FlownIsHonest) (plan : PlanOf) (m : Held) (patched : Option Patched) (spans : List Span) (g : Started) (end : End) (is : g.end ≡ Some end) (r : IsStarted plan m patched spans g) where
  ended : EndedSo plan m r.flight end
  ended = subst (StandsBy plan m r.flight) is r.stands

  honest_flight : (versions : List Table) → HaveTables versions spans → IsHonest plan versions (flight_entry plan g.worker r.flight)
  honest_flight versions have =
      let over : has_ended plan (flown plan (adoptions_of spans) (begun plan g.run r.run) g.turns) ≡ true = ap (has_ended plan) r.is ∙ ended.over in
      subst (λ (f : Flight). IsHonest plan versions (flight_entry plan g.worker f)) r.is
      (honest_law plan versions (adoptions_of spans) g.run r.run g.turns g.worker r.of_plan (adoptions_are versions spans have) over)

  count : length (steps_of (done_in r.flight)) ≡ g.turns
  count = length-map (done_in r.flight) _ ∙ length-reverse r.flight.steps ∙ sym r.turns

  -- its entry, where the parts that it tells are those of the flight's
  entry_with : (e : Entry) → flight_entry plan g.worker r.flight ≡ e → entry_of_going plan (Some (going_with g spans)) ≡ Some e
  entry_with e same = ap (option_map (flight_entry plan g.worker)) (flight_is plan m patched spans g r) ∙ ap Some same

  within : g.turns ≤ plan.budget
  within = let few = r.leaves.within in omega (arith, r.turns)

-- ---- a learn run

module _ (honest_law : FlownIsHonest) (plain_law : FlownIsPlain) (plan : PlanOf) (m : Held) (g : Started) (end : End) (is : g.end ≡ Some end) (r : IsStarted plan m None [] g) where
  abbrev plain : List Step
  plain = plain_run plan.image r.run.input plan.budget

  learn_over : has_ended plan (flown plan [] (begun plan g.run r.run) g.turns) ≡ true
  learn_over = ap (has_ended plan) r.is ∙ (ended honest_law plan m None [] g end is r).over

  learn_mode : r.run.mode ≡ Learn
  learn_mode = ap (λ (run : Run). run.mode) (sym r.run_is) ∙ r.keeps

  learn_steps_are : steps_of (done_in r.flight) ≡ plain
  learn_steps_are = ap (λ (f : Flight). steps_of (done_in f)) (sym r.is) ∙ (plain_law plan g.run g.worker r.run g.turns learn_mode learn_over).0

  learn_entry_is : flight_entry plan g.worker r.flight ≡ ended_entry g end m plain_told
  learn_entry_is =
      let e = ended honest_law plan m None [] g end is r in
      let law = (plain_law plan g.run g.worker r.run g.turns learn_mode learn_over).1 in
      ap (flight_entry plan g.worker) (sym r.is)
      ∙ law
      ∙ same_entry _ (ended_entry g end m plain_told) refl refl refl refl
      (ap end_of (sym learn_steps_are) ∙ e.ends)
      (ap length (sym learn_steps_are) ∙ count honest_law plan m None [] g end is r)
      (ap sites_in (sym learn_steps_are) ∙ e.sites)
      (ap (λ (run : Run). (state_left (start_state plan.image run.input) plain).output) (sym r.run_is) ∙ ap (λ (steps : List Step). (state_left (start_state plan.image r.flight.run.input) steps).output) (sym learn_steps_are) ∙ e.output)
      refl refl

  learn_observed : seen_so_far plan (Some (going_with g [])) ≡ observed_of plan (run_at plan g.run)
  learn_observed = learn_seen plan m g r ∙ ap observations learn_steps_are ∙ sym (ap (observed_of plan) r.of_plan)

  learn_known : IsEntryOf plan (Learning g) (ended_entry g end m plain_told)
  learn_known = record {
    entry = entry_with honest_law plan m None [] g end is r (ended_entry g end m plain_told) learn_entry_is;
    honest = λ versions have. subst (IsHonest plan versions) learn_entry_is (honest_flight honest_law plan m None [] g end is r versions tt);
    rows = refl;
    rises = tt;
    going = refl;
    learned = λ learns. learn_observed;
    unseen = λ lives. cc;
    there = rw r.of_plan refl;
    turns = within honest_law plan m None [] g end is r;
    worker = r.worker;
  }

-- ---- a live run

module _ (honest_law : FlownIsHonest) (rows_law : RowsAreJoined) (plan : PlanOf) (m : Held) (g : Started) (p : Patched) (end : End) (is : g.end ≡ Some end) (r : IsStarted plan m (Some p) p.spans.items g) where
  keeps : Keeps plan r.flight p (Some end)
  keeps = subst (Keeps plan r.flight p) is r.keeps

  rows_are : reverse (joined r.flight.versions) ≡ rows_of p.spans.items
  rows_are =
      ap (λ (vs : List ℕ). reverse (joined vs)) (sym (ap (λ (vs : List ℕ). reverse vs) keeps.versions ∙ reverse-reverse r.flight.versions))
      ∙ rows_law (rows_of p.spans.items) keeps.kept.joined

  live_entry_is : flight_entry plan g.worker r.flight ≡ ended_entry g end m (live_told (done_in r.flight) p)
  live_entry_is =
      let e = ended honest_law plan m (Some p) p.spans.items g end is r in
      same_entry _ (ended_entry g end m (live_told (done_in r.flight) p)) r.number_is refl keeps.lives rows_are e.ends (count honest_law plan m (Some p) p.spans.items g end is r) e.sites e.output refl refl

  live_known : IsEntryOf plan (Living g p) (ended_entry g end m (live_told (done_in r.flight) p))
  live_known = record {
    entry = entry_with honest_law plan m (Some p) p.spans.items g end is r _ live_entry_is;
    honest = λ versions have. subst (IsHonest plan versions) live_entry_is (honest_flight honest_law plan m (Some p) p.spans.items g end is r versions have);
    rows = refl;
    rises = keeps.kept.rises;
    going = refl;
    learned = λ learns. cc;
    unseen = λ lives. live_unseen plan m p.spans.items g p r;
    there = rw r.of_plan refl;
    turns = within honest_law plan m (Some p) p.spans.items g end is r;
    worker = r.worker;
  }

-- ---- either

-- the entry that is built is that of the run
pub known : FlownIsHonest → FlownIsPlain → RowsAreJoined → (plan : PlanOf) (m : Held) (flying : Flying) (g : Started) (end : End) (t : Account) → Stands plan m flying → ending_of flying ≡ Some (g, end) → IsTold flying t → IsEntryOf plan flying (ended_entry g end m t)
known honest_law plain_law rows_law plan m Nothing g end t stands ends told = cc
known honest_law plain_law rows_law plan m (Learning s) g end t stands ends told =
    let parts = pair s g end ends in
    rw (told, ← parts.0) (learn_known honest_law plain_law plan m s end parts.1 stands)
known honest_law plain_law rows_law plan m (Living s p) g end t stands ends told =
    let parts = pair s g end ends in
    let keeps_s = subst (Keeps plan stands.flight p) parts.1 stands.keeps in
    rw (told (done_in stands.flight) keeps_s.kept, ← parts.0) (live_known honest_law rows_law plan m s p end parts.1 stands)
