-- A started live run that wants a block entry, and what becomes of it.
use Rattle.std.proofs.Common.{◌≡◌, ◌<◌, ◌≤◌, ◌+◌, ℕ, suc, Bool, true, false, List, [], ◌∷◌, ◌++◌, length, Option, Some, None, Result, Ok, Err, refl, sym, ap, ◌∙◌, subst, arith, length-append}
use Rattle.std.specs.Prelude.{◌&&◌, not, is_some, if◌then◌else◌, option_map, OnOk, OnErr}
use Rattle.std.proofs.lemmas.List.{reverse-append}
use Rattle.std.proofs.lemmas.Result.{on_ok_weaker}
use Rattle.cv_base.specs.declared.ends.End.{End}
use Rattle.cv_base.specs.declared.memory.NoMemory.{NoMemory}
use Rattle.cv_base.specs.PlanOf.{PlanOf}
use Rattle.cv_exec.specs.ArenaOf.{flight_in, is_over, wants}
use Rattle.cv_exec.specs.InFlightStands.{GoesOn, IsStarted, Keeps, Leaves, Marks, StandsBy, going_with}
use Rattle.cv_exec.specs.declared.flying.Flying.TheVariants.{Living}
use Rattle.cv_exec.specs.declared.flying.Started.{Started}
use Rattle.cv_exec.specs.declared.patched.Patched.{Patched}
use Rattle.cv_exec.specs.LiveRun.{MayAdopt, Span, adoptions_of, rows_of}
use Rattle.cv_exec.specs.Keeping.{IsEntered, IsKept, IsReady, IsRefused, is_of_version, last_span, last_table, wants_by}
use Rattle.cv_exec.proofs.Adopting.{adoptions_more, joined_more, last_more, may_again, rises_more, some_last, written_more}
use Rattle.cv_exec.proofs.Recipe.{adopt_more, and_false}
use Rattle.cv_exec.proofs.Standing.{flight_is, live_entry_is, over, wants_entry_in}
use Rattle.cv_exec.proofs.Turned.{going}
use Rattle.cv_histories.specs.Flight.{begun, done_in, entered, flown, may_enter}
use Rattle.cv_histories.specs.Rows.{checks_in, firings_in, written}
use Rattle.cv_machine.specs.Held.{Held}
use Rattle.cv_runs.specs.BlockEntries.{since_next}
use Rattle.cv_runs.specs.PatchedRun.{PatchedStep, Table, notes_of}

-- a run that wants a block entry has no end
wanted : (end : Option End) (b : Bool) → (not (is_some end) && b) ≡ true → (end ≡ None) × (b ≡ true)
wanted None b is = (refl, is)
wanted (Some end) b is = cc

open_entry : (enters inside : Bool) → (enters && not inside) ≡ true → inside ≡ false
open_entry true true is = cc
open_entry true false is = refl
open_entry false inside is = cc

kept_entered : (done : List PatchedStep) (version : ℕ) (table : Table) (p q : Patched) → MayAdopt version table p.spans.items → IsEntered version table p q → IsKept done p → IsKept done q
kept_entered done version table p q may e kept = record {
  joined = rw e.spans (joined_more version table p.spans.items kept.joined);
  rises = rw e.spans (rises_more version table p.spans.items may kept.rises);
  checks = e.counts.checks (checks_in (notes_of done)) kept.checks;
  firings = e.counts.firings (firings_in (notes_of done)) kept.firings;
}

few_inside : (inside : Bool) (n k : ℕ) → inside ≡ false → n ≤ k + (if inside then 1 else 0) → suc n ≤ k + 1
few_inside true n k open_is few = cc
few_inside false n k open_is few = omega arith

module _ (plan : PlanOf) (m : Held) (g : Started) (p : Patched) (r : IsStarted plan m (Some p) p.spans.items g) (wanting : wants plan (Some (going_with g p.spans.items)) ≡ true) where
  parts : (g.end ≡ None) × (wants_by p ≡ true)
  parts = wanted g.end (wants_by p) (sym (wants_entry_in plan m (Living g p) r) ∙ wanting)

  goes : GoesOn plan m r.flight
  goes = subst (StandsBy plan m r.flight) parts.0 r.stands

  keeps : Keeps plan r.flight p None
  keeps = subst (Keeps plan r.flight p) parts.0 r.keeps

  may_enter_now : may_enter plan r.flight ≡ true
  may_enter_now = live_entry_is plan r.flight p keeps.lives goes.on keeps.marks ∙ parts.1

  outside : r.flight.entered ≡ false
  outside = sym keeps.marks.entered ∙ open_entry p.enters p.entered parts.1

  -- rows have room for one more
  few_by : (inside : Bool) (n k : ℕ) → inside ≡ false → n ≤ k + (if inside then 1 else 0) → n ≤ k
  few_by true n k open_is few = cc
  few_by false n k open_is few = omega arith

  pub room : plan.budget ≤ 10000000 → length (adoptions_of p.spans.items) < 4294967295
  room limit =
      let below = (going plan r.flight goes.on r.leaves.within).1 in
      let few = few_by r.flight.entered (length r.flight.versions) (length r.flight.steps) outside keeps.marks.few in
      let used = r.used in
      omega arith

  pub ready : p.prepared ≡ true → IsReady p
  ready = keeps.marks.ready

  module _ (version : ℕ) (table : Table) (may : MayAdopt version table p.spans.items) (q : Patched) where
    leaves_entered : Leaves plan (entered version table r.flight)
    leaves_entered = record { within = r.leaves.within; state = r.leaves.state; ends = r.leaves.ends }

    marks_entered : IsEntered version table p q → Marks (entered version table r.flight) q
    marks_entered e = record {
      enters = e.enters ∙ keeps.marks.enters;
      rule = e.rule ∙ keeps.marks.rule ∙ ap (λ (b : Bool). since_next b r.flight.since) (sym e.enters);
      entered = e.entered;
      few = few_inside r.flight.entered (length r.flight.versions) (length r.flight.steps) outside keeps.marks.few;
      room = e.counts.up_to (length r.flight.steps) keeps.marks.room;
      ready = λ prepared. e.ready;
      prepared = λ still. e.prepared;
      some = λ still. rw e.spans (some_last version table p.spans.items);
    }

    adoptions_are : IsEntered version table p q → adoptions_of q.spans.items ≡ adoptions_of p.spans.items ++ record { version = version; table = table } ∷ []
    adoptions_are e = ap adoptions_of e.spans ∙ adoptions_more version table p.spans.items may

    abbrev after_entry : IsEntered version table p q → IsStarted plan m (Some q) q.spans.items g
    after_entry e =
        let keeps_now : Keeps plan (entered version table r.flight) q None = record {
          lives = keeps.lives;
          text = e.text ∙ keeps.text;
          kept = kept_entered (done_in r.flight) version table p q may e keeps.kept;
          versions = ap (λ (spans : List Span). written (rows_of spans)) e.spans ∙ written_more version table p.spans.items ∙ ap (λ (vs : List ℕ). vs ++ version ∷ []) keeps.versions ∙ sym (reverse-append (version ∷ []) r.flight.versions);
          table = ap last_table e.spans ∙ last_more version table p.spans.items may;
          marks = marks_entered e;
        } in
        let goes_now : GoesOn plan m (entered version table r.flight) = record { on = goes.on; state = goes.state } in
        let used = r.used in
        let count : length (adoptions_of q.spans.items) ≡ length (adoptions_of p.spans.items) + 1 = ap length (adoptions_are e) ∙ length-append (adoptions_of p.spans.items) _ in
        record {
          run = r.run;
          flight = entered version table r.flight;
          of_plan = r.of_plan;
          worker = r.worker;
          is =
              ap (λ as'. flown plan as' (begun plan g.run r.run) g.turns) (adoptions_are e)
              ∙ adopt_more plan (adoptions_of p.spans.items) (record { version = version; table = table }) (begun plan g.run r.run) refl g.turns r.flight r.is may_enter_now r.used (sym r.turns);
          number_is = r.number_is;
          run_is = r.run_is;
          used = omega arith;
          turns = r.turns;
          leaves = leaves_entered;
          stands = subst (StandsBy plan m (entered version table r.flight)) (sym parts.0) goes_now;
          keeps = subst (Keeps plan (entered version table r.flight) q) (sym parts.0) keeps_now;
        }

    -- ---- refused memory

    after_refusal : IsRefused p q → IsStarted plan m (Some q) q.spans.items g
    after_refusal e =
        let still_wants : wants_by q ≡ true = ap (λ (b : Bool). b && not q.entered) e.enters ∙ ap (λ (b : Bool). p.enters && not b) e.entered ∙ parts.1 in
        let marks : Marks r.flight q = record {
          enters = e.enters ∙ keeps.marks.enters;
          rule = e.rule ∙ keeps.marks.rule ∙ ap (λ (b : Bool). since_next b r.flight.since) (sym e.enters);
          entered = e.entered ∙ keeps.marks.entered;
          few = keeps.marks.few;
          room = e.counts.up_to (length r.flight.steps) keeps.marks.room;
          ready = e.ready;
          prepared = λ still. let clash : true ≡ false = sym still_wants ∙ still in cc;
          some = λ still. let clash : true ≡ false = sym still_wants ∙ still in cc;
        } in
        let keeps_now : Keeps plan r.flight q None = record {
          lives = keeps.lives;
          text = e.text ∙ keeps.text;
          kept = record {
            joined = rw e.spans keeps.kept.joined;
            rises = rw e.spans keeps.kept.rises;
            checks = e.counts.checks (checks_in (notes_of (done_in r.flight))) keeps.kept.checks;
            firings = e.counts.firings (firings_in (notes_of (done_in r.flight))) keeps.kept.firings;
          };
          versions = ap (λ (spans : List Span). written (rows_of spans)) e.spans ∙ keeps.versions;
          table = ap last_table e.spans ∙ keeps.table;
          marks = marks;
        } in
        record {
          run = r.run;
          flight = r.flight;
          of_plan = r.of_plan;
          worker = r.worker;
          is = ap (λ (spans : List Span). flown plan (adoptions_of spans) (begun plan g.run r.run) g.turns) e.spans ∙ r.is;
          number_is = r.number_is;
          run_is = r.run_is;
          used = ap (λ (spans : List Span). length (adoptions_of spans)) e.spans ∙ r.used;
          turns = r.turns;
          leaves = r.leaves;
          stands = r.stands;
          keeps = subst (Keeps plan r.flight q) (sym parts.0) keeps_now;
        }

    -- ---- whether the entry was made, or refused memory

    pub stands_after : (result : Result (Unit {0}) NoMemory) → OnOk result (IsEntered version table p q) → OnErr result (IsRefused p q) → IsStarted plan m (Some q) q.spans.items g
    stands_after (Ok done) ok err = after_entry ok
    stands_after (Err e) ok err = after_refusal err

    flight_by : IsEntered version table p q → flight_in plan (Some (going_with g q.spans.items)) ≡ option_map (entered version table) (flight_in plan (Some (going_with g p.spans.items)))
    flight_by e =
        flight_is plan m (Some q) q.spans.items g (after_entry e)
        ∙ sym (ap (option_map (entered version table)) (flight_is plan m (Some p) p.spans.items g r))

    pub flight_entered : (result : Result (Unit {0}) NoMemory) → OnOk result (IsEntered version table p q) → OnOk result (flight_in plan (Some (going_with g q.spans.items)) ≡ option_map (entered version table) (flight_in plan (Some (going_with g p.spans.items))))
    flight_entered result ok = on_ok_weaker result flight_by ok

    goes_by : IsEntered version table p q → is_over plan (Some (going_with g q.spans.items)) ≡ false
    goes_by e = over plan m (Some q) q.spans.items g (after_entry e) ∙ ap is_some parts.0

    pub goes_entered : (result : Result (Unit {0}) NoMemory) → OnOk result (IsEntered version table p q) → OnOk result (is_over plan (Some (going_with g q.spans.items)) ≡ false)
    goes_entered result ok = on_ok_weaker result goes_by ok

    closed_by : IsEntered version table p q → wants plan (Some (going_with g q.spans.items)) ≡ false
    closed_by e =
        wants_entry_in plan m (Living g q) (after_entry e)
        ∙ ap (λ (end : Option End). not (is_some end) && wants_by q) parts.0
        ∙ ap (λ (b : Bool). q.enters && not b) e.entered
        ∙ and_false q.enters

    pub closed_entered : (result : Result (Unit {0}) NoMemory) → OnOk result (IsEntered version table p q) → OnOk result (wants plan (Some (going_with g q.spans.items)) ≡ false)
    closed_entered result ok = on_ok_weaker result closed_by ok

  -- ---- the version that was adopted last, once more

  module _ (version : ℕ) (q : Patched) where
    pub stands_again : (answer : Bool) → (answer ≡ true → is_of_version version (last_span p.spans.items) ≡ true) → (answer ≡ true → IsEntered version (last_table p.spans.items) p q) → (answer ≡ false → q ≡ p) → IsStarted plan m (Some q) q.spans.items g
    stands_again true known entry same = after_entry version (last_table p.spans.items) (may_again version p.spans.items (known refl)) q (entry refl)
    stands_again false known entry same = rw (same refl) r

    pub goes_again : is_of_version version (last_span p.spans.items) ≡ true → IsEntered version (last_table p.spans.items) p q → is_over plan (Some (going_with g q.spans.items)) ≡ false
    goes_again known entry = goes_by version (last_table p.spans.items) (may_again version p.spans.items known) q entry

    pub closed_again : is_of_version version (last_span p.spans.items) ≡ true → IsEntered version (last_table p.spans.items) p q → wants plan (Some (going_with g q.spans.items)) ≡ false
    closed_again known entry = closed_by version (last_table p.spans.items) (may_again version p.spans.items known) q entry
