-- A live run over plain turns, of which the last alone may be a transfer, where no patch stands and
-- no block entry comes before the last.
use Rattle.std.proofs.Common.{◌≡◌, ◌≤◌, ◌<◌, ◌+◌, ◌-◌, ℕ, zero, suc, Bool, true, false, List, [], ◌∷◌, length, Option, Some, None, refl, sym, ap, ◌∙◌, subst, arith}
use Rattle.std.specs.Prelude.{◌&&◌, ◌||◌, ◌==◌, if◌then◌else◌, option_map, IfSome}
use Rattle.std.proofs.lemmas.Bool.{or_parts}
use Rattle.std.proofs.lemmas.Bool.Decides.{nat_tests}
use Rattle.std.proofs.lemmas.List.{append-nil}
use Rattle.cv_base.specs.declared.plan.Mode.{Mode}
use Rattle.cv_base.specs.Picture.{Picture, is_point}
use Rattle.cv_base.specs.PlanOf.{PlanOf}
use Rattle.cv_exec.specs.declared.flying.Started.{Started}
use Rattle.cv_exec.specs.declared.patched.Patched.{Patched}
use Rattle.cv_exec.specs.ArenaOf.{Going, adopted_in, turns_in}
use Rattle.cv_exec.specs.InFlightStands.{GoesOn, IsStarted, Keeps, Leaves, Marks, StandsBy}
use Rattle.cv_exec.specs.Keeping.{IsNoted, IsReady, IsUpTo, last_table, wants_by}
use Rattle.cv_exec.specs.LiveRun.{Span, adoptions_of}
use Rattle.cv_exec.specs.Passing.{EndsBy, passed, passed_by, with_adopted, with_turns}
use Rattle.cv_patch.specs.Indexing.{AreFree, has_patch}
use Rattle.cv_exec.proofs.Following.{Follows, follows}
use Rattle.cv_exec.proofs.Notes.{fired_rises, kept_on, tally_rises}
use Rattle.cv_exec.proofs.Recipe.{turn_more, turns}
use Rattle.cv_exec.proofs.Standing.{live_entry_is}
use Rattle.cv_exec.proofs.Turned.{done_more, going, leaves_after}
use Rattle.cv_histories.specs.Flight.{Flight, begun, done_in, flight_turn, flown, has_ended, turned, turned_by, turned_with}
use Rattle.cv_histories.specs.Runs.{Run}
use Rattle.cv_histories.specs.Seen.{is_live}
use Rattle.cv_machine.specs.Held.{Held, state_of}
use Rattle.cv_machine.specs.PlainTurns.{GoesOn as TurnGoesOn, IsStretch, LastOf}
use Rattle.cv_patch.specs.Counts.{CountsChecks, CountsFirings}
use Rattle.cv_runs.specs.Arithmetic.{plus32}
use Rattle.cv_runs.specs.Apply.{Left, after, apply, one_patch, patch_point, went_on}
use Rattle.cv_runs.specs.BlockEntries.{is_entry, since_next}
use Rattle.cv_runs.specs.PatchedRun.{PatchedStep, PatchedTurn, Table, patched_step, patched_turn, turn_after}
use Rattle.cv_runs.specs.PlainTurn.{turn_of}
use Rattle.cv_runs.specs.State.{State, Outcome, Next, Ended, pc_of}
use Rattle.cv_shadow.specs.declared.frames.Core.{Core}

-- ---- a turn where no patch stands

abbrev placed : Bool → Bool → Left → Left → Left → Left
placed here acted one later past = elim here [ false ↦ past | true ↦ elim acted [ true ↦ one | false ↦ after one later ] ]

none_stands : (point : ℕ → Bool) (p : ℕ) (table : Table) (core : Core) → has_patch table p ≡ false → apply point p table core ≡ went_on core []
none_stands point p [] core none = refl
none_stands point p (q ∷ qs) core none =
    let one : Left = one_patch point q core in
    let parts = or_parts (patch_point q == p) (has_patch qs p) none in
    ap (λ (b : Bool). placed b one.acted one (apply point p qs one.core) (apply point p qs core)) parts.0 ∙ none_stands point p qs core parts.1

idle_turn : (image : Picture) (table : Table) (s : State) → has_patch table (pc_of s) ≡ false → patched_turn image table s ≡ record { notes = []; outcome = turn_of image s }
idle_turn image table s none = ap (turn_after image s) (none_stands (is_point image) (pc_of s) table s.core none)

-- nothing was noted
noted_none : (p : Patched) (rule : Option ℕ) (transfer : Bool) (o : Outcome) → IsReady p → IsNoted (record { notes = []; outcome = o }) p (passed_by rule transfer p)
noted_none p rule transfer o ready = record {
  text = refl;
  spans = refl;
  prepared = refl;
  index = refl;
  tally = record {
    counts = λ before is. subst (CountsChecks p.tally) (sym (append-nil before)) is;
    ready = ready.tally;
    rises = λ n low. tally_rises n (n + 1) p.tally (omega arith) low;
  };
  fired = record {
    counts = λ before is. subst (CountsFirings p.fired) (sym (append-nil before)) is;
    ready = ready.fired;
    rises = λ n low. fired_rises n (n + 1) p.fired (omega arith) low;
  };
}

few_on : (entered : Bool) (n k : ℕ) → n ≤ k + (if entered then 1 else 0) → n ≤ suc k + 0
few_on true n k few = omega arith
few_on false n k few = omega arith

up_on : (n : ℕ) (p : Patched) → IsUpTo n p → IsUpTo (suc n) p
up_on n p is = record { tally = tally_rises n (suc n) p.tally (omega arith) is.tally; fired = fired_rises n (suc n) p.fired (omega arith) is.fired }

module _ (plan : PlanOf) (spans : List Span) (number : ℕ) (run : Run) where
  -- a live run that goes on, told without its machine
  record Flies (n : ℕ) (f : Flight) (p : Patched) : Type 0 where
    pub is : flown plan (adoptions_of spans) (begun plan number run) n ≡ f
    pub number_is : f.number ≡ number
    pub run_is : f.run ≡ run
    pub used : length (adoptions_of spans) ≡ length f.versions
    pub count : n ≡ length f.steps
    pub leaves : Leaves plan f
    pub on : has_ended plan f ≡ false
    pub keeps : Keeps plan f p None

  -- ---- one turn

  module _ (n : ℕ) (f : Flight) (p : Patched) (r : Flies n f p) (still : wants_by p ≡ false) (next : State) (transfer : Bool) (none : has_patch f.table (pc_of f.state) ≡ false) (goes : turn_of plan.image f.state ≡ Next next transfer) (left : suc n < plan.budget) where
    abbrev turn : PatchedTurn
    turn = record { notes = []; outcome = Next next transfer }

    abbrev step : PatchedStep
    step = patched_step f.state (is_entry f.since f.transferred) turn

    abbrev later : Flight
    later = turned_by f step (Next next transfer)

    same : flight_turn plan f ≡ turn
    same =
        ap (λ (mode : Mode). elim (is_live mode) as (λ b. PatchedTurn) [ true ↦ patched_turn plan.image f.table f.state | false ↦ record { notes = []; outcome = turn_of plan.image f.state } ]) r.keeps.lives
        ∙ idle_turn plan.image f.table f.state none
        ∙ ap (λ (o : Outcome). record { notes = []; outcome = o }) goes

    turned_is : turned plan f ≡ later
    turned_is = ap (turned_with f) same

    flown_is : flown plan (adoptions_of spans) (begun plan number run) (suc n) ≡ later
    flown_is =
        let may = turns plan f r.on (live_entry_is plan f p r.keeps.lives r.on r.keeps.marks ∙ still) in
        let count : length (turned plan f).versions ≡ length f.versions = ap (λ (x : Flight). length x.versions) turned_is in
        let used = r.used in
        turn_more plan (adoptions_of spans) (begun plan number run) f n r.is may (omega arith) ∙ turned_is

    on_now : (f.over ≡ false) × (length f.steps < plan.budget)
    on_now = going plan f r.on r.leaves.within

    marks_on : Marks later (passed_by p.rule transfer p)
    marks_on =
        let marks = r.keeps.marks in
        let since : p.rule ≡ since_next (is_entry f.since f.transferred) f.since = marks.rule ∙ ap (λ (b : Bool). since_next b f.since) marks.enters in
        record {
          enters = ap (λ (k : Option ℕ). is_entry k transfer) since;
          rule = ap (λ (k : Option ℕ). since_next (is_entry p.rule transfer) k) since;
          entered = refl;
          few = few_on f.entered (length f.versions) (length f.steps) marks.few;
          room = record { tally = (up_on (length f.steps) p marks.room).tally; fired = (up_on (length f.steps) p marks.room).fired };
          ready = λ prepared. record { index = (marks.ready prepared).index; tally = (marks.ready prepared).tally; fired = (marks.ready prepared).fired };
          prepared = λ free. marks.prepared still;
          some = λ free. marks.some still;
        }

    flies_on : Flies (suc n) later (passed_by p.rule transfer p)
    flies_on =
        let more : (suc (length f.steps) == plan.budget) ≡ false = let count = r.count in grind (arith, nat_tests) in
        let noted = noted_none p p.rule transfer (Next next transfer) (r.keeps.marks.ready (r.keeps.marks.prepared still)) in
        record {
          is = flown_is;
          number_is = r.number_is;
          run_is = r.run_is;
          used = r.used;
          count = ap suc r.count;
          leaves = leaves_after plan f step r.leaves on_now.0 on_now.1 refl (Next next transfer) refl;
          on = ap (λ (b : Bool). b || (suc (length f.steps) == plan.budget)) on_now.0 ∙ more;
          keeps = record {
            lives = r.keeps.lives;
            text = r.keeps.text;
            kept = rw (done_more f step (Next next transfer)) (kept_on (done_in f) step p (passed_by p.rule transfer p) r.keeps.kept noted);
            versions = r.keeps.versions;
            table = r.keeps.table;
            marks = marks_on;
          };
        }

  -- ---- as many as the machine made

  record Reaches (n : ℕ) (t : State) (q : Patched) : Type 0 where
    pub flight : Flight
    pub flies : Flies n flight q
    pub at : flight.state ≡ t

  abbrev Passes : ℕ → Type 0
  Passes count =
      (n : ℕ) (f : Flight) (p : Patched) (t : State) (transfer : Bool) (since : ℕ) → Flies n f p → wants_by p ≡ false → p.rule ≡ Some since → since + suc count ≤ 65 → n + suc count < plan.budget
      → AreFree f.table (suc count) (pc_of f.state) → IsStretch plan.image (suc count) f.state t transfer → Reaches (n + suc count) t (passed_by (Some (since + count)) transfer p)

  to_count : (n k : ℕ) (t : State) (rule other : Option ℕ) (transfer : Bool) (p : Patched) → n ≡ k → rule ≡ other → Reaches n t (passed_by rule transfer p) → Reaches k t (passed_by other transfer p)
  to_count n k t rule other transfer p same is r = subst (λ (x : ℕ). Reaches x t (passed_by other transfer p)) same (subst (λ (x : Option ℕ). Reaches n t (passed_by x transfer p)) is r)

  -- the last turn
  module _ (n : ℕ) (f : Flight) (p : Patched) (since : ℕ) (r : Flies n f p) (still : wants_by p ≡ false) (rule : p.rule ≡ Some since) (none : has_patch f.table (pc_of f.state) ≡ false) where
    last_turn : (next t : State) (transfer told : Bool) → turn_of plan.image f.state ≡ Next next transfer → t ≡ next → told ≡ transfer → n + 1 < plan.budget → Reaches (n + 1) t (passed_by (Some (since + 0)) told p)
    last_turn next t transfer told goes same tells left =
        let one : suc n ≡ n + 1 = omega arith in
        let at : p.rule ≡ Some (since + 0) = rule ∙ ap Some (omega arith) in
        rw (same, tells) (to_count (suc n) (n + 1) next p.rule (Some (since + 0)) transfer p one at (record {
          flight = turned_by f (patched_step f.state (is_entry f.since f.transferred) (record { notes = []; outcome = Next next transfer })) (Next next transfer);
          flies = flies_on n f p r still next transfer none goes (omega arith);
          at = refl;
        }))

    not_yet : since + 2 ≤ 65 → (since == 64) ≡ false
    not_yet low = grind (arith, nat_tests)

    -- a turn that is no transfer, before others
    module _ (count : ℕ) (rest : Passes count) (next t : State) (transfer : Bool) (goes : turn_of plan.image f.state ≡ Next next false) (low : since + suc (suc count) ≤ 65) (left : n + suc (suc count) < plan.budget) where
      abbrev one_on : Patched
      one_on = passed_by p.rule false p

      enters_none : is_entry p.rule false ≡ false
      enters_none = ap (λ (k : Option ℕ). is_entry k false) rule ∙ not_yet (omega arith)

      rule_on : one_on.rule ≡ Some (since + 1)
      rule_on = ap (λ (b : Bool). since_next b p.rule) enters_none ∙ ap (since_next false) rule

      first_turn : AreFree f.table (suc count) (pc_of next) → IsStretch plan.image (suc count) next t transfer → Reaches (n + suc (suc count)) t (passed_by (Some (since + suc count)) transfer p)
      first_turn free is =
          let step = patched_step f.state (is_entry f.since f.transferred) (record { notes = []; outcome = Next next false }) in
          let less : suc n + suc count ≡ n + suc (suc count) = omega arith in
          let at : since + 1 + count ≡ since + suc count = omega arith in
          to_count (suc n + suc count) (n + suc (suc count)) t (Some (since + 1 + count)) (Some (since + suc count)) transfer p less (ap Some at)
          (rest (suc n) (turned_by f step (Next next false)) one_on t transfer (since + 1) (flies_on n f p r still next false none goes (omega arith)) (ap (λ (b : Bool). b && true) enters_none) rule_on (omega arith) (omega arith) free is)

  abbrev Rest : ℕ → Type 0
  Rest zero = Unit {0}
  Rest (suc count) = Passes count

  by_outcome : (count : ℕ) → Rest count → (n : ℕ) (f : Flight) (p : Patched) (t : State) (transfer : Bool) (since : ℕ) (o : Outcome) → Flies n f p → wants_by p ≡ false → p.rule ≡ Some since → since + suc count ≤ 65 → n + suc count < plan.budget
      → has_patch f.table (pc_of f.state) ≡ false → turn_of plan.image f.state ≡ o → Follows f.state o → AreFree f.table count (plus32 (pc_of f.state) 4)
      → TurnGoesOn o (λ next last. LastOf count next t transfer last (IsStretch plan.image count next t transfer)) → Reaches (n + suc count) t (passed_by (Some (since + count)) transfer p)
  by_outcome count rest n f p t transfer since (Ended end) r still rule low left none goes follow free is = absurd is
  by_outcome zero rest n f p t transfer since (Next next true) r still rule low left none goes follow free is = last_turn n f p since r still rule none next t true transfer goes is.1 is.2 left
  by_outcome (suc count) rest n f p t transfer since (Next next true) r still rule low left none goes follow free is = let clash : suc count ≡ 0 = is.0 in cc
  by_outcome zero rest n f p t transfer since (Next next false) r still rule low left none goes follow free is = last_turn n f p since r still rule none next t false transfer goes is.0 is.1 left
  by_outcome (suc count) rest n f p t transfer since (Next next false) r still rule low left none goes follow free is =
      first_turn n f p since r still rule none count rest next t transfer goes low left (subst (AreFree f.table (suc count)) (sym follow) free) is

  passes : (count : ℕ) → Passes count
  passes zero n f p t transfer since r still rule low left free is =
      by_outcome zero tt n f p t transfer since (turn_of plan.image f.state) r still rule low left free.0 refl (follows plan.image f.state) free.1 is
  passes (suc count) n f p t transfer since r still rule low left free is =
      by_outcome (suc count) (passes count) n f p t transfer since (turn_of plan.image f.state) r still rule low left free.0 refl (follows plan.image f.state) free.1 is

-- ---- fewer turns

pub none_free : (count pc : ℕ) → AreFree [] count pc
none_free zero pc = tt
none_free (suc count) pc = (refl, none_free count (plus32 pc 4))

pub less_free : (table : Table) (k n pc : ℕ) → k ≤ n → AreFree table n pc → AreFree table k pc
less_free table zero n pc less free = tt
less_free table (suc k) zero pc less free = absurd (omega arith)
less_free table (suc k) (suc n) pc less free = (free.0, less_free table k n (plus32 pc 4) (omega arith) free.1)

pub ends_less : (rule : Option ℕ) (k n : ℕ) → k ≤ n → EndsBy rule n → EndsBy rule k
ends_less None k n less ends = tt
ends_less (Some since) k n less ends = omega arith

pub ends_room : (rule : Option ℕ) (room : ℕ) → IfSome rule (λ since. since + room ≡ 65) → EndsBy rule room
ends_room None room is = tt
ends_room (Some since) room is = omega arith

-- ---- a started run

some_since : (b : Bool) (o : Option ℕ) → since_next b o ≡ None → ⊥
some_since true o is = cc
some_since false None is = cc
some_since false (Some n) is = cc

module _ (plan : PlanOf) (m new : Held) (g : Started) (p : Patched) (r : IsStarted plan m (Some p) p.spans.items g) (none : g.end ≡ None) where
  goes_here : GoesOn plan m r.flight
  goes_here = subst (StandsBy plan m r.flight) none r.stands

  keeps_here : Keeps plan r.flight p None
  keeps_here = subst (Keeps plan r.flight p) none r.keeps

  flies_here : Flies plan p.spans.items g.run r.run g.turns r.flight p
  flies_here = record {
    is = r.is;
    number_is = r.number_is;
    run_is = r.run_is;
    used = r.used;
    count = r.turns;
    leaves = r.leaves;
    on = goes_here.on;
    keeps = keeps_here;
  }

  pub turns_left : g.turns < plan.budget
  turns_left =
      let below = (going plan r.flight goes_here.on r.leaves.within).1 in
      let count = r.turns in
      omega arith

  pub ready_now : wants_by p ≡ false → IsReady p
  ready_now still = keeps_here.marks.ready (keeps_here.marks.prepared still)

  reached : (turns : ℕ) (q : Patched) → Reaches plan p.spans.items g.run r.run (g.turns + turns) (state_of new) q → IsStarted plan new (Some q) p.spans.items (record g { turns = g.turns + turns })
  reached turns q there = record {
    run = r.run;
    flight = there.flight;
    of_plan = r.of_plan;
    worker = r.worker;
    is = there.flies.is;
    number_is = there.flies.number_is;
    run_is = there.flies.run_is;
    used = there.flies.used;
    turns = there.flies.count;
    leaves = there.flies.leaves;
    stands = subst (StandsBy plan new there.flight) (sym none) (record { on = there.flies.on; state = sym there.at });
    keeps = subst (Keeps plan there.flight q) (sym none) there.flies.keeps;
  }

  by_rule : (still : wants_by p ≡ false) (count : ℕ) (transfer : Bool) (rule : Option ℕ) → p.rule ≡ rule → EndsBy rule (suc count) → g.turns + suc count < plan.budget → AreFree r.flight.table (suc count) (pc_of r.flight.state)
      → IsStretch plan.image (suc count) r.flight.state (state_of new) transfer → Reaches plan p.spans.items g.run r.run (g.turns + suc count) (state_of new) (passed_by (option_map (λ (since : ℕ). since + (suc count - 1)) rule) transfer p)
  by_rule still count transfer None is ends left free turns = absurd (some_since p.enters r.flight.since (sym keeps_here.marks.rule ∙ is))
  by_rule still count transfer (Some since) is ends left free turns =
      let less : since + count ≡ since + (suc count - 1) = omega arith in
      subst (λ (k : ℕ). Reaches plan p.spans.items g.run r.run (g.turns + suc count) (state_of new) (passed_by (Some k) transfer p)) less
      (passes plan p.spans.items g.run r.run count g.turns r.flight p (state_of new) transfer since flies_here still is ends left free turns)

  -- the machine made so many turns
  pub passes_on : (still : wants_by p ≡ false) (image : Picture) (turns : ℕ) (transfer : Bool) → image ≡ plan.image → 0 < turns → EndsBy p.rule turns → g.turns + turns < plan.budget → AreFree (last_table p.spans.items) turns m.core.pc
      → IsStretch image turns (state_of m) (state_of new) transfer → IsStarted plan new (Some (passed turns transfer p)) p.spans.items (record g { turns = g.turns + turns })
  passes_on still image zero transfer same some ends left free turns = absurd (omega arith)
  passes_on still image (suc count) transfer same some ends left free turns =
      let free_so : AreFree r.flight.table (suc count) (pc_of (state_of m)) = subst (λ (t : Table). AreFree t (suc count) (pc_of (state_of m))) keeps_here.table free in
      let free_here : AreFree r.flight.table (suc count) (pc_of r.flight.state) = subst (λ (s : State). AreFree r.flight.table (suc count) (pc_of s)) goes_here.state free_so in
      let turns_so : IsStretch plan.image (suc count) (state_of m) (state_of new) transfer = subst (λ (i : Picture). IsStretch i (suc count) (state_of m) (state_of new) transfer) same turns in
      let turns_here : IsStretch plan.image (suc count) r.flight.state (state_of new) transfer = subst (λ (s : State). IsStretch plan.image (suc count) s (state_of new) transfer) goes_here.state turns_so in
      reached (suc count) (passed (suc count) transfer p) (by_rule still count transfer p.rule refl ends left free_here turns_here)

-- ---- block entries and turns, as a whole run counts them

-- a run after a block entry, perhaps, and turns
pub record Onward (run worker : ℕ) (a b d : Option Going) : Type 0 where
  pub going : d ≡ Some (record { run = run; worker = worker; turns = turns_in d; adopted = adopted_in d })
  pub adopted : adopted_in d ≡ adopted_in b
  pub before : turns_in b ≡ turns_in a

pub onward : (run worker : ℕ) (a b d : Option Going) → a ≡ Some (record { run = run; worker = worker; turns = turns_in a; adopted = adopted_in a }) → b ≡ with_adopted (adopted_in b) a → d ≡ with_turns (turns_in d) b → Onward run worker a b d
onward run worker a b d is entry turn =
    let at : b ≡ Some (record { run = run; worker = worker; turns = turns_in a; adopted = adopted_in b }) = entry ∙ ap (with_adopted (adopted_in b)) is in
    let to : d ≡ Some (record { run = run; worker = worker; turns = turns_in d; adopted = adopted_in b }) = turn ∙ ap (with_turns (turns_in d)) at in
    let adopted : adopted_in d ≡ adopted_in b = ap adopted_in to in
    record {
      going = to ∙ ap (λ (spans : List Span). Some (record { run = run; worker = worker; turns = turns_in d; adopted = spans })) (sym adopted);
      adopted = adopted;
      before = ap turns_in at;
    }
