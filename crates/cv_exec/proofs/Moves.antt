-- A started run through one more turn.
use Rattle.std.proofs.Common.{◌≡◌, ◌≤◌, ◌<◌, ◌+◌, ◌-◌, ℕ, suc, Bool, true, false, List, [], length, Option, Some, None, refl, sym, ap, ◌∙◌, subst, arith}
use Rattle.std.specs.Prelude.{if◌then◌else◌, option_map}
use Rattle.cv_base.specs.declared.ends.End.{End}
use Rattle.cv_base.specs.declared.plan.Mode.{Mode}
use Rattle.cv_base.specs.Picture.{Picture, is_point}
use Rattle.cv_base.specs.PlanOf.{PlanOf}
use Rattle.cv_exec.specs.declared.flying.Started.{Started}
use Rattle.cv_exec.specs.declared.patched.Patched.{Patched}
use Rattle.cv_exec.specs.ArenaOf.{flight_in}
use Rattle.cv_exec.specs.InFlightStands.{GoesOn, IsStarted, Keeps, KeepsBy, Marks, MarksBy, StandsBy, going_with}
use Rattle.cv_exec.specs.Keeping.{EntersAfter, IsNoted, IsReady, MayTurn, indexed_table, is_transfer_in, last_table, patched_state, range_of, turned_state, wants_by}
use Rattle.cv_exec.specs.LiveRun.{Span, adoptions_of}
use Rattle.cv_exec.specs.RunEnds.{end_sites, end_with}
use Rattle.cv_exec.proofs.Notes.{kept_on, up_to_more}
use Rattle.cv_exec.proofs.Patching.{end_sites_kept}
use Rattle.cv_exec.proofs.Recipe.{turn_more, turns}
use Rattle.cv_exec.proofs.Standing.{flight_is, learn_no_entry, live_entry_is}
use Rattle.cv_exec.proofs.Turned.{done_more, going, leaves_after, stands_after}
use Rattle.cv_histories.specs.Flight.{Flight, begun, done_in, flight_turn, flown, may_turn, turned, turned_by, turned_with}
use Rattle.cv_histories.specs.Runs.{Run}
use Rattle.cv_histories.specs.Seen.{is_live}
use Rattle.cv_machine.specs.Answers.{left_by}
use Rattle.cv_machine.specs.Held.{Held, state_of}
use Rattle.cv_runs.specs.BlockEntries.{is_entry, since_next}
use Rattle.cv_runs.specs.PatchedRun.{PatchedStep, PatchedTurn, Table, patched_step, patched_turn}
use Rattle.cv_runs.specs.PlainTurn.{turn_of}
use Rattle.cv_runs.specs.State.{State, Outcome, Next, Ended}

-- the run after one more turn
abbrev pub after_turn : Started → Option End → Started
after_turn g end = record { run = g.run; worker = g.worker; turns = g.turns + 1; end = end }

-- ---- what a turn keeps

kept_number : (f : Flight) (step : PatchedStep) (o : Outcome) → (turned_by f step o).number ≡ f.number
kept_number f step (Next next transfer) = refl
kept_number f step (Ended end) = refl

pub kept_run : (f : Flight) (step : PatchedStep) (o : Outcome) → (turned_by f step o).run ≡ f.run
kept_run f step (Next next transfer) = refl
kept_run f step (Ended end) = refl

kept_versions : (f : Flight) (step : PatchedStep) (o : Outcome) → (turned_by f step o).versions ≡ f.versions
kept_versions f step (Next next transfer) = refl
kept_versions f step (Ended end) = refl

kept_table : (f : Flight) (step : PatchedStep) (o : Outcome) → (turned_by f step o).table ≡ f.table
kept_table f step (Next next transfer) = refl
kept_table f step (Ended end) = refl

one_step : (f : Flight) (step : PatchedStep) (o : Outcome) → length (turned_by f step o).steps ≡ suc (length f.steps)
one_step f step (Next next transfer) = refl
one_step f step (Ended end) = refl

-- a started run after a turn that is `turn`
module _ (plan : PlanOf) (m new : Held) (patched : Option Patched) (spans : List Span) (g : Started) (r : IsStarted plan m patched spans g) (goes : GoesOn plan m r.flight) (may : may_turn plan r.flight ≡ true) (turn : PatchedTurn) (same : flight_turn plan r.flight ≡ turn) where
  abbrev pub step : PatchedStep
  step = patched_step r.flight.state (is_entry r.flight.since r.flight.transferred) turn

  abbrev pub next : Flight
  next = turned_by r.flight step turn.outcome

  turned_is : turned plan r.flight ≡ next
  turned_is = ap (turned_with r.flight) same

  versions_kept : (turned plan r.flight).versions ≡ r.flight.versions
  versions_kept = ap (λ (f : Flight). f.versions) turned_is ∙ kept_versions r.flight step turn.outcome

  flown_is : flown plan (adoptions_of spans) (begun plan g.run r.run) (g.turns + 1) ≡ next
  flown_is =
      let one : g.turns + 1 ≡ suc g.turns = omega arith in
      let count = ap length versions_kept in
      let used = r.used in
      ap (flown plan (adoptions_of spans) (begun plan g.run r.run)) one
      ∙ turn_more plan (adoptions_of spans) (begun plan g.run r.run) r.flight g.turns r.is may (omega arith)
      ∙ turned_is

  on : (r.flight.over ≡ false) × (length r.flight.steps < plan.budget)
  on = going plan r.flight goes.on r.leaves.within

  -- the run that is shown is the run in flight after a turn
  pub flight_more : flight_in plan (Some (going_with (after_turn g None) spans)) ≡ option_map (turned plan) (flight_in plan (Some (going_with g spans)))
  flight_more =
      ap (option_map (λ (run : Run). flown plan (adoptions_of spans) (begun plan g.run run) (g.turns + 1))) r.of_plan
      ∙ ap Some (flown_is ∙ sym turned_is)
      ∙ sym (ap (option_map (turned plan)) (flight_is plan m patched spans g r))

  -- it stands so, where it keeps what it has to
  pub started_after : (now : Option Patched) (s : State) (left : ℕ) (end : Option End) → state_of new ≡ left_by turn.outcome s → s.output ≡ r.flight.state.output
      → ((e : End) → turn.outcome ≡ Ended e → end_sites e r.flight.state.core ≡ end_sites e s.core) → left ≡ plan.budget - g.turns → end ≡ end_with left turn.outcome
      → KeepsBy plan next end now → IsStarted plan new now spans (after_turn g end)
  started_after now s left end state output sites all ends keeps =
      let one_more : length r.flight.steps + 1 ≡ suc (length r.flight.steps) = omega arith in
      record {
        run = r.run;
        flight = next;
        of_plan = r.of_plan;
        worker = r.worker;
        is = flown_is;
        number_is = kept_number r.flight step turn.outcome ∙ r.number_is;
        run_is = kept_run r.flight step turn.outcome ∙ r.run_is;
        used = r.used ∙ ap length (sym (kept_versions r.flight step turn.outcome));
        turns = ap (λ (n : ℕ). n + 1) r.turns ∙ one_more ∙ sym (one_step r.flight step turn.outcome);
        leaves = leaves_after plan r.flight step r.leaves on.0 on.1 refl turn.outcome refl;
        stands = stands_after plan r.flight step r.leaves on.0 on.1 refl new s left end turn.outcome refl state output sites (all ∙ ap (λ (n : ℕ). plan.budget - n) r.turns) ends;
        keeps = keeps;
      }

-- ---- a learn run

module _ (plan : PlanOf) (m new : Held) (g : Started) (r : IsStarted plan m None [] g) (none : g.end ≡ None) where
  learn_goes : GoesOn plan m r.flight
  learn_goes = subst (StandsBy plan m r.flight) none r.stands

  learn_may : may_turn plan r.flight ≡ true
  learn_may = turns plan r.flight learn_goes.on (learn_no_entry plan r.flight r.keeps)

  abbrev learn_turn : PatchedTurn
  learn_turn = record { notes = []; outcome = turn_of plan.image r.flight.state }

  learn_same : flight_turn plan r.flight ≡ learn_turn
  learn_same =
      ap (λ (mode : Mode). elim (is_live mode) as (λ b. PatchedTurn) [ true ↦ patched_turn plan.image r.flight.table r.flight.state | false ↦ learn_turn ]) r.keeps

  pub learn_flight : flight_in plan (Some (going_with (after_turn g None) [])) ≡ option_map (turned plan) (flight_in plan (Some (going_with g [])))
  learn_flight = flight_more plan m new None [] g r learn_goes learn_may learn_turn learn_same

  pub learn_after : (left : ℕ) (end : Option End)
      → state_of new ≡ left_by (turn_of plan.image (state_of m)) (state_of m) → left ≡ plan.budget - g.turns → end ≡ end_with left (turn_of plan.image (state_of m))
      → IsStarted plan new None [] (after_turn g end)
  learn_after left end state all ends =
      let s = r.flight.state in
      let is = learn_goes.state in
      let o = turn_of plan.image s in
      let f = r.flight in
      let step = patched_step s (is_entry f.since f.transferred) learn_turn in
      started_after plan m new None [] g r learn_goes learn_may learn_turn learn_same None s left end (rw is at state) refl (λ e ends. refl) all (rw is at ends)
      (ap (λ (run : Run). run.mode) (kept_run f step o) ∙ r.keeps)

-- ---- a live run

few_more : (entered : Bool) (n k : ℕ) → n ≤ k + (if entered then 1 else 0) → n ≤ suc k + 0
few_more true n k few = omega arith
few_more false n k few = omega arith

module _ (plan : PlanOf) (m new : Held) (g : Started) (p : Patched) (r : IsStarted plan m (Some p) p.spans.items g) (none : g.end ≡ None) (still : wants_by p ≡ false) where
  live_goes : GoesOn plan m r.flight
  live_goes = subst (StandsBy plan m r.flight) none r.stands

  live_keeps : Keeps plan r.flight p None
  live_keeps = subst (Keeps plan r.flight p) none r.keeps

  live_may : may_turn plan r.flight ≡ true
  live_may = turns plan r.flight live_goes.on (live_entry_is plan r.flight p live_keeps.lives live_goes.on live_keeps.marks ∙ still)

  -- what a turn takes
  pub may_turn_now : m.image ≡ plan.image → is_point m.image m.core.pc ≡ true → plan.budget ≤ 10000000 → MayTurn p m
  may_turn_now image point few =
      let below = (going plan r.flight live_goes.on r.leaves.within).1 in
      record {
        text = live_keeps.text ∙ ap range_of (sym image);
        point = point;
        some = live_keeps.marks.some still;
        ready = live_keeps.marks.ready (live_keeps.marks.prepared still);
        room = up_to_more (length r.flight.steps) 4294967294 p (omega arith) live_keeps.marks.room;
      }

  abbrev live_turn : PatchedTurn
  live_turn = patched_turn plan.image r.flight.table r.flight.state

  live_same : flight_turn plan r.flight ≡ live_turn
  live_same =
      ap (λ (mode : Mode). elim (is_live mode) as (λ b. PatchedTurn) [ true ↦ live_turn | false ↦ record { notes = []; outcome = turn_of plan.image r.flight.state } ]) live_keeps.lives

  pub live_flight : flight_in plan (Some (going_with (after_turn g None) p.spans.items)) ≡ option_map (turned plan) (flight_in plan (Some (going_with g p.spans.items)))
  live_flight = flight_more plan m new (Some p) p.spans.items g r live_goes live_may live_turn live_same

  abbrev live_step : PatchedStep
  live_step = patched_step r.flight.state (is_entry r.flight.since r.flight.transferred) live_turn

  module _ (q : Patched) (noted : IsNoted live_turn p q) where
    spans_kept : q.spans.items ≡ p.spans.items
    spans_kept = ap (λ v. v.items) noted.spans

    -- where the run goes on
    marks_more : (next : State) (transfer : Bool) → live_turn.outcome ≡ Next next transfer → EntersAfter transfer p q → Marks (turned_by r.flight live_step (Next next transfer)) q
    marks_more next transfer is after =
        let marks = live_keeps.marks in
        let since : p.rule ≡ since_next (is_entry r.flight.since r.flight.transferred) r.flight.since = marks.rule ∙ ap (λ (b : Bool). since_next b r.flight.since) marks.enters in
        let ready : IsReady q = record { index = ap indexed_table noted.index ∙ (marks.ready (marks.prepared still)).index ∙ ap last_table (sym spans_kept); tally = rw spans_kept noted.tally.ready; fired = rw spans_kept noted.fired.ready } in
        let one : length r.flight.steps + 1 ≡ suc (length r.flight.steps) = omega arith in
        record {
          enters = after.enters ∙ ap (λ (n : Option ℕ). is_entry n transfer) since;
          rule = after.rule ∙ ap (λ (n : Option ℕ). since_next q.enters n) since;
          entered = after.entered;
          few = few_more r.flight.entered (length r.flight.versions) (length r.flight.steps) marks.few;
          room = rw (← one) (record { tally = noted.tally.rises (length r.flight.steps) marks.room.tally; fired = noted.fired.rises (length r.flight.steps) marks.room.fired });
          ready = λ prepared. ready;
          prepared = λ later. noted.prepared ∙ marks.prepared still;
          some = λ later. rw spans_kept (marks.some still);
        }

    marks_by : (o : Outcome) (left : ℕ) (end : Option End) → live_turn.outcome ≡ o → end ≡ end_with left o → (end ≡ None → EntersAfter (is_transfer_in o) p q) → MarksBy (turned_by r.flight live_step o) q end
    marks_by o left (Some e) is ends after = tt
    marks_by (Next next transfer) left None is ends after = marks_more next transfer is (after refl)
    marks_by (Ended e) left None is ends after = absurd cc

    keeps_more : (left : ℕ) (end : Option End) → end ≡ end_with left live_turn.outcome → (end ≡ None → EntersAfter (is_transfer_in live_turn.outcome) p q) → Keeps plan (turned_by r.flight live_step live_turn.outcome) q end
    keeps_more left end ends after =
        let o = live_turn.outcome in
        record {
          lives = ap (λ (run : Run). run.mode) (kept_run r.flight live_step o) ∙ live_keeps.lives;
          text = noted.text ∙ live_keeps.text;
          kept = rw (done_more r.flight live_step o) (kept_on (done_in r.flight) live_step p q live_keeps.kept noted);
          versions = rw (spans_kept, kept_versions r.flight live_step o) live_keeps.versions;
          table = rw (spans_kept, kept_table r.flight live_step o) live_keeps.table;
          marks = marks_by o left end refl ends after;
        }

  live_after_by : (image : Picture) (table : Table) (s : State) (q : Patched) (left : ℕ) (end : Option End) → image ≡ plan.image → table ≡ r.flight.table → s ≡ r.flight.state → left ≡ plan.budget - g.turns
      → state_of new ≡ turned_state image table s
      → end ≡ end_with left (patched_turn image table s).outcome
      → IsNoted (patched_turn image table s) p q
      → (end ≡ None → EntersAfter (is_transfer_in (patched_turn image table s).outcome) p q)
      → IsStarted plan new (Some q) p.spans.items (after_turn g end)
  live_after_by image table s q left end same table_is is all state ends noted after =
      let noted_so : IsNoted live_turn p q = rw (same, table_is, is) at noted in
      started_after plan m new (Some p) p.spans.items g r live_goes live_may live_turn live_same (Some q) (patched_state plan.image r.flight.table r.flight.state) left end
      (rw (same, table_is, is) at state) refl (λ e ended. end_sites_kept plan.image r.flight.table r.flight.state e ended) all (rw (same, table_is, is) at ends)
      (keeps_more q noted_so left end (rw (same, table_is, is) at ends) (rw (same, table_is, is) at after))

  pub live_after : (image : Picture) (q : Patched) (left : ℕ) (end : Option End) → image ≡ plan.image → left ≡ plan.budget - g.turns
      → state_of new ≡ turned_state image (last_table p.spans.items) (state_of m)
      → end ≡ end_with left (patched_turn image (last_table p.spans.items) (state_of m)).outcome
      → IsNoted (patched_turn image (last_table p.spans.items) (state_of m)) p q
      → (end ≡ None → EntersAfter (is_transfer_in (patched_turn image (last_table p.spans.items) (state_of m)).outcome) p q)
      → IsStarted plan new (Some q) q.spans.items (after_turn g end)
  live_after image q left end same all state ends noted after =
      let spans : q.spans.items ≡ p.spans.items = ap (λ v. v.items) noted.spans in
      subst (λ (spans : List Span). IsStarted plan new (Some q) spans (after_turn g end)) (sym spans)
      (live_after_by image (last_table p.spans.items) (state_of m) q left end same live_keeps.table live_goes.state all state ends noted after)
