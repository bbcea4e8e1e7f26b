-- A run in flight through each event, and its entry at its end.
use Rattle.std.proofs.Common.{◌≡◌, ◌≤◌, ◌<◌, ◌+◌, ◌-◌, ℕ, suc, Bool, true, false, List, [], ◌∷◌, ◌++◌, length, Some, None, refl, sym, ap, ◌∙◌, subst, arith, length-append}
use Rattle.std.specs.Prelude.{◌==◌, ◌||◌, ◌&&◌, not, if◌then◌else◌, reverse, slice_get}
use Rattle.std.specs.List.{AllByRecursion, flat_map}
use Rattle.std.proofs.lemmas.Bool.{and_parts, not-true}
use Rattle.std.proofs.lemmas.Bool.Decides.{nat_tests}
use Rattle.std.proofs.lemmas.Grind.{flat_map-append}
use Rattle.std.proofs.lemmas.List.{append-nil, length-map, map-append, reverse-append}
use Rattle.cv_base.specs.declared.ends.End.{End}
use Rattle.cv_base.specs.declared.plan.Mode.{Mode}
use Rattle.cv_base.specs.declared.plan.Mode.TheVariants.{Learn, Live}
use Rattle.cv_base.specs.PlanOf.{PlanOf}
use Rattle.cv_histories.specs.Honest.{AreTables, IsHonest, IsLearn, IsLive, IsOfMode, Tells}
use Rattle.cv_histories.specs.Rows.{checks_in, firings_in, fired_of, tally_of}
use Rattle.cv_histories.specs.Runs.{Run, run_at}
use Rattle.cv_histories.specs.Seen.{is_live}
use Rattle.cv_histories.specs.Flight.{Flight, at_entry, begun, done_in, entered, flight_entry, flight_turn, has_ended, joined, may_enter, may_turn, turned, turned_by, turned_with}
use Rattle.cv_laws.proofs.PatchedSteps.{at_seam, entries_in-seam, grows_entered}
use Rattle.cv_laws.specs.TurnStatements.{step_with, table_at}
use Rattle.cv_laws.proofs.PatchedSteps
use Rattle.cv_laws.proofs.PlainSteps
use Rattle.cv_laws.proofs.VersionTables.{joined_is, joined_written}
use Rattle.cv_laws.specs.Flying.{Flies, FliesBy, FliesPatched, FliesPlain, GoesPatched, IsDue, IsOverPatched, StandsPatched, rest_of, turns_under}
use Rattle.cv_runs.specs.Apply.{Note}
use Rattle.cv_runs.specs.BlockEntries.{is_entry, since_next}
use Rattle.cv_runs.specs.PatchedRun.{PatchedStep, PatchedTurn, Table, entries_in, notes_of, only_if, patched_step, patched_turn, steps_of}
use Rattle.cv_runs.specs.PlainRun.{Step, plain_run, steps_from}
use Rattle.cv_runs.specs.PlainTurn.{turn_of}
use Rattle.cv_runs.specs.State.{State, Outcome, Next, Ended, start_state}

-- the state before the first turn
abbrev start_of : PlanOf → Flight → State
start_of plan f = start_state plan.image f.run.input

-- ---- tests

-- a mode that passes the test is live
live_if : (mode : Mode) → is_live mode ≡ true → mode ≡ Live
live_if Learn is = cc
live_if Live is = refl

-- what has not ended is not over, and below its budget
goes_by : (over : Bool) (n budget : ℕ) (last : Bool) → (n == budget) ≡ last → not (over || last) ≡ true → n ≤ budget → (over ≡ false) × (n < budget)
goes_by true n budget last test is within = cc
goes_by false n budget true test is within = cc
goes_by false n budget false test is within = (refl, grind (arith, nat_tests))

-- a run that has not ended has turns left
pub goes_yet : (plan : PlanOf) (f : Flight) → not (has_ended plan f) ≡ true → length f.steps ≤ plan.budget → (f.over ≡ false) × (length f.steps < plan.budget)
goes_yet plan f is within = goes_by f.over (length f.steps) plan.budget (length f.steps == plan.budget) refl is within

-- ---- at its start

-- by its mode
flies_first : (plan : PlanOf) (versions : List Table) (number : ℕ) (run : Run) (mode : Mode) → FliesBy mode plan versions (begun plan number run)
flies_first plan versions number run Learn = record {
  none = refl;
  goes = PlainSteps.grows_first plan.image (start_state plan.image run.input);
  unpatched = tt;
}
flies_first plan versions number run Live = record {
  tables = [];
  adopted = tt;
  stands = record {
    current = [];
    goes = PatchedSteps.grows_first plan.image (start_state plan.image run.input);
    due = (refl, refl);
  };
}

-- a run flies before its first turn
pub begun_flies : (plan : PlanOf) (versions : List Table) (number : ℕ) (run : Run) → Flies plan versions (begun plan number run)
begun_flies plan versions number run = record { of_mode = flies_first plan versions number run run.mode; within = omega arith }

-- ---- after one more block entry

-- one more version, with its table
adopted_more : (versions : List Table) (vs : List ℕ) (tables : List Table) (v : ℕ) (t : Table) → slice_get versions v ≡ Some t → AreTables versions vs tables → AreTables versions (vs ++ v ∷ []) (tables ++ t ∷ [])
adopted_more versions [] [] v t at are = (at, tt)
adopted_more versions [] (u ∷ tables) v t at are = absurd are
adopted_more versions (w ∷ vs) [] v t at are = absurd are
adopted_more versions (w ∷ vs) (u ∷ tables) v t at are = (are.0, adopted_more versions vs tables v t at are.1)

-- it goes on, whatever comes behind the new table
goes_entered : (plan : PlanOf) (v : ℕ) (table : Table) (f : Flight) (tables : List Table) → at_entry f ≡ true → length f.steps < plan.budget → f.entered ≡ false → GoesPatched plan f tables → GoesPatched plan (entered v table f) (tables ++ table ∷ [])
goes_entered plan v table f tables at below first g =
    let due : IsDue plan f tables g.current false = subst (IsDue plan f tables g.current) first g.due in
    record {
      current = g.current;
      goes = grows_entered plan.image (start_of plan f) tables table (length f.steps) (done_in f) f.state f.since f.transferred g.current g.goes;
      due = (at, below, ap (slice_get (tables ++ table ∷ [])) (sym due.1) ∙ at_seam tables table, length-append tables (table ∷ []) ∙ ap (λ (n : ℕ). n + 1) due.1);
    }

-- a live run that enters
patched_entered : (plan : PlanOf) (versions : List Table) (v : ℕ) (table : Table) (f : Flight) → slice_get versions v ≡ Some table → at_entry f ≡ true → f.over ≡ false → length f.steps < plan.budget → f.entered ≡ false → FliesPatched plan versions f → FliesPatched plan versions (entered v table f)
patched_entered plan versions v table f there at on below first flies =
    let goes : GoesPatched plan f flies.tables = subst (StandsPatched plan f flies.tables) on flies.stands in
    record {
      tables = flies.tables ++ table ∷ [];
      adopted = subst (λ (vs : List ℕ). AreTables versions vs (flies.tables ++ table ∷ [])) (sym (reverse-append (v ∷ []) f.versions))
          (adopted_more versions (reverse f.versions) flies.tables v table there flies.adopted);
      stands = subst (StandsPatched plan (entered v table f) (flies.tables ++ table ∷ [])) (sym on) (goes_entered plan v table f flies.tables at below first goes);
    }

-- a run flies after a block entry under a version of this table
pub entered_flies : (plan : PlanOf) (versions : List Table) (v : ℕ) (table : Table) (f : Flight) → slice_get versions v ≡ Some table → may_enter plan f ≡ true → Flies plan versions f → Flies plan versions (entered v table f)
entered_flies plan versions v table f there may flies =
    let enters = and_parts (not (has_ended plan f) && at_entry f) (not f.entered) may in
    let goes = and_parts (not (has_ended plan f)) (at_entry f) enters.0 in
    let lives = live_if f.run.mode (and_parts (is_live f.run.mode) (is_entry f.since f.transferred) goes.1).0 in
    let on = goes_yet plan f goes.0 flies.within in
    record {
      of_mode = subst (λ (mode : Mode). FliesBy mode plan versions (entered v table f)) (sym lives)
          (patched_entered plan versions v table f there goes.1 on.0 on.1 (not-true f.entered enters.1) (subst (λ (mode : Mode). FliesBy mode plan versions f) lives flies.of_mode));
      within = flies.within;
    }

-- ---- after one more turn

-- the next turn's table, and how many tables there are with it
due_by : (plan : PlanOf) (f : Flight) (tables : List Table) (current : Table) (at entered : Bool) → at_entry f ≡ at → (not at || entered) ≡ true → IsDue plan f tables current entered
    → (table_at (slice_get tables) at (entries_in (done_in f)) current ≡ Some f.table) × (length tables ≡ (if at then entries_in (done_in f) + 1 else entries_in (done_in f)))
due_by plan f tables current true true is may due = (due.2, due.3)
due_by plan f tables current true false is may due = cc
due_by plan f tables current false true is may due = let no = due.0 in cc
due_by plan f tables current false false is may due = (ap Some due.0, due.1)

module _ (plan : PlanOf) (f : Flight) (tables : List Table) (on : f.over ≡ false) (g : GoesPatched plan f tables) (table : table_at (slice_get tables) (is_entry f.since f.transferred) (entries_in (done_in f)) g.current ≡ Some f.table) (all : length tables ≡ (if is_entry f.since f.transferred then entries_in (done_in f) + 1 else entries_in (done_in f))) where
  abbrev step : PatchedStep
  step = step_with plan.image f.table f.state f.since f.transferred

  -- the new step stands behind those before it
  patched_order : reverse (step ∷ f.steps) ≡ done_in f ++ step ∷ []
  patched_order = reverse-append (step ∷ []) f.steps

  -- there is a table for each block entry
  all_now : length tables ≡ entries_in (reverse (step ∷ f.steps))
  all_now = all ∙ sym (entries_in-seam (done_in f) step) ∙ ap entries_in (sym patched_order)

  -- after a turn that others follow
  patched_next : (next : State) (transfer : Bool) → (patched_turn plan.image f.table f.state).outcome ≡ Next next transfer → GoesPatched plan (turned_by f step (Next next transfer)) tables
  patched_next next transfer is = record {
    current = f.table;
    goes = subst (λ (done : List PatchedStep). PatchedSteps.Grows plan.image (start_of plan f) tables (suc (length f.steps)) done next (since_next (is_entry f.since f.transferred) f.since) transfer f.table) (sym patched_order)
        (PatchedSteps.goes_on plan.image (start_of plan f) tables (length f.steps) (done_in f) f.state f.since f.transferred g.current f.table g.goes table next transfer is);
    due = (refl, all_now);
  }

  -- after a turn that ends the run
  patched_ended : (end : End) → (patched_turn plan.image f.table f.state).outcome ≡ Ended end → IsOverPatched plan (turned_by f step (Ended end)) tables
  patched_ended end is = record {
    whole = λ turns. PatchedSteps.stops plan.image (start_of plan f) tables (length f.steps) (done_in f) f.state f.since f.transferred g.current f.table g.goes table turns end is ∙ ap Some (sym patched_order);
    all = all_now;
  }

  -- after either
  patched_stands : (o : Outcome) → (patched_turn plan.image f.table f.state).outcome ≡ o → StandsPatched plan (turned_by f step o) tables (turned_by f step o).over
  patched_stands (Next next transfer) is = subst (StandsPatched plan (turned_by f step (Next next transfer)) tables) (sym on) (patched_next next transfer is)
  patched_stands (Ended end) is = patched_ended end is

  -- a live run after a turn
  patched_turned : (versions : List Table) (o : Outcome) → (patched_turn plan.image f.table f.state).outcome ≡ o → AreTables versions (reverse f.versions) tables → FliesPatched plan versions (turned_by f step o)
  patched_turned versions (Next next transfer) is adopted = record { tables = tables; adopted = adopted; stands = patched_stands (Next next transfer) is }
  patched_turned versions (Ended end) is adopted = record { tables = tables; adopted = adopted; stands = patched_stands (Ended end) is }

-- a turn of a run, which is live or not
abbrev turn_in : PlanOf → Flight → Bool → PatchedTurn
turn_in plan f live =
    elim live [ true ↦ patched_turn plan.image f.table f.state | false ↦ record { notes = []; outcome = turn_of plan.image f.state } ]

module _ (plan : PlanOf) (f : Flight) (on : f.over ≡ false) (flies : FliesPlain plan f) where
  abbrev plain_step : PatchedStep
  plain_step = patched_step f.state (is_entry f.since f.transferred) (record { notes = []; outcome = turn_of plan.image f.state })

  -- the new step stands behind those before it
  plain_order : (o : Outcome) → turn_of plan.image f.state ≡ o → steps_of (reverse (plain_step ∷ f.steps)) ≡ steps_of (done_in f) ++ record { before = f.state; outcome = o } ∷ []
  plain_order o is =
      ap steps_of (reverse-append (plain_step ∷ []) f.steps)
      ∙ map-append (λ (s : PatchedStep). record { before = s.before; outcome = s.outcome }) (done_in f) (plain_step ∷ [])
      ∙ ap (λ (o : Outcome). steps_of (done_in f) ++ record { before = f.state; outcome = o } ∷ []) is

  -- the run goes on from its state
  plain_grows : PlainSteps.Grows plan.image (start_of plan f) (length f.steps) (steps_of (done_in f)) f.state
  plain_grows turns = flies.goes turns ∙ ap (λ (over : Bool). steps_of (done_in f) ++ rest_of plan f over turns) on

  -- a learn run after a turn
  plain_turned : (o : Outcome) → turn_of plan.image f.state ≡ o → FliesPlain plan (turned_by f plain_step o)
  plain_turned (Next next transfer) is =
      let now = turned_by f plain_step (Next next transfer) in
      record {
        none = flies.none;
        goes = λ turns.
            PlainSteps.goes_on plan.image (start_of plan f) (length f.steps) (steps_of (done_in f)) f.state plain_grows next transfer is turns
            ∙ ap (λ (done : List Step). done ++ steps_from plan.image turns next) (sym (plain_order (Next next transfer) is))
            ∙ ap (λ (over : Bool). steps_of (done_in now) ++ rest_of plan now over turns) (sym on);
        unpatched = (refl, flies.unpatched);
      }
  plain_turned (Ended end) is = record {
    none = flies.none;
    goes = λ turns.
        PlainSteps.stops plan.image (start_of plan f) (length f.steps) (steps_of (done_in f)) f.state plain_grows turns end is
        ∙ sym (plain_order (Ended end) is)
        ∙ sym (append-nil (steps_of (reverse (plain_step ∷ f.steps))));
    unpatched = (refl, flies.unpatched);
  }

-- a turn keeps the run, and is one step more
flies_on : (plan : PlanOf) (versions : List Table) (f : Flight) (step : PatchedStep) (mode : Mode) (o : Outcome) → f.run.mode ≡ mode → length f.steps < plan.budget → FliesBy mode plan versions (turned_by f step o) → Flies plan versions (turned_by f step o)
flies_on plan versions f step mode (Next next transfer) is below flies = record {
  of_mode = subst (λ (mode : Mode). FliesBy mode plan versions (turned_by f step (Next next transfer))) (sym is) flies;
  within = below;
}
flies_on plan versions f step mode (Ended end) is below flies = record {
  of_mode = subst (λ (mode : Mode). FliesBy mode plan versions (turned_by f step (Ended end))) (sym is) flies;
  within = below;
}

-- a live run that may turn
live_turned : (plan : PlanOf) (versions : List Table) (f : Flight) → f.run.mode ≡ Live → f.over ≡ false → length f.steps < plan.budget → (not (at_entry f) || f.entered) ≡ true → FliesPatched plan versions f → Flies plan versions (turned_with f (patched_turn plan.image f.table f.state))
live_turned plan versions f lives on below may flies =
    let g : GoesPatched plan f flies.tables = subst (StandsPatched plan f flies.tables) on flies.stands in
    let enters = is_entry f.since f.transferred in
    let at : at_entry f ≡ enters = ap (λ (mode : Mode). is_live mode && enters) lives in
    let due = due_by plan f flies.tables g.current enters f.entered at (subst (λ (at : Bool). (not at || f.entered) ≡ true) at may) g.due in
    let o = (patched_turn plan.image f.table f.state).outcome in
    flies_on plan versions f (step_with plan.image f.table f.state f.since f.transferred) Live o lives below
    (patched_turned plan f flies.tables on g due.0 due.1 versions o refl flies.adopted)

-- a run of either mode that may turn
turned_by_mode : (plan : PlanOf) (versions : List Table) (f : Flight) (mode : Mode) → f.run.mode ≡ mode → f.over ≡ false → length f.steps < plan.budget → (not (at_entry f) || f.entered) ≡ true → FliesBy mode plan versions f → Flies plan versions (turned plan f)
turned_by_mode plan versions f Learn is on below may flies =
    let same : flight_turn plan f ≡ turn_in plan f false = ap (λ (mode : Mode). turn_in plan f (is_live mode)) is in
    subst (λ (turn : PatchedTurn). Flies plan versions (turned_with f turn)) (sym same)
    (flies_on plan versions f (plain_step plan f on flies) Learn (turn_of plan.image f.state) is below (plain_turned plan f on flies (turn_of plan.image f.state) refl))
turned_by_mode plan versions f Live is on below may flies =
    let same : flight_turn plan f ≡ turn_in plan f true = ap (λ (mode : Mode). turn_in plan f (is_live mode)) is in
    subst (λ (turn : PatchedTurn). Flies plan versions (turned_with f turn)) (sym same) (live_turned plan versions f is on below may flies)

-- a run flies after a turn
pub turned_flies : (plan : PlanOf) (versions : List Table) (f : Flight) → may_turn plan f ≡ true → Flies plan versions f → Flies plan versions (turned plan f)
turned_flies plan versions f may flies =
    let turns = and_parts (not (has_ended plan f)) (not (at_entry f) || f.entered) may in
    let on = goes_yet plan f turns.0 flies.within in
    turned_by_mode plan versions f f.run.mode refl on.0 on.1 turns.1 flies.of_mode

-- ---- under more versions, behind these

-- tables of versions are also those of more versions
pub adopted_grown : (versions more : List Table) (vs : List ℕ) (tables : List Table) → ((v : ℕ) (t : Table) → slice_get versions v ≡ Some t → slice_get more v ≡ Some t) → AreTables versions vs tables → AreTables more vs tables
adopted_grown versions more [] [] stay are = tt
adopted_grown versions more [] (t ∷ tables) stay are = are
adopted_grown versions more (v ∷ vs) [] stay are = are
adopted_grown versions more (v ∷ vs) (t ∷ tables) stay are = (stay v t are.0, adopted_grown versions more vs tables stay are.1)

-- by its mode
mode_grown : (plan : PlanOf) (versions more : List Table) (f : Flight) (mode : Mode) → ((v : ℕ) (t : Table) → slice_get versions v ≡ Some t → slice_get more v ≡ Some t) → FliesBy mode plan versions f → FliesBy mode plan more f
mode_grown plan versions more f Learn stay flies = flies
mode_grown plan versions more f Live stay flies = record {
  tables = flies.tables;
  adopted = adopted_grown versions more (reverse f.versions) flies.tables stay flies.adopted;
  stands = flies.stands;
}

-- a run flies under more versions
pub grown_flies : (plan : PlanOf) (versions more : List Table) (f : Flight) → ((v : ℕ) (t : Table) → slice_get versions v ≡ Some t → slice_get more v ≡ Some t) → Flies plan versions f → Flies plan more f
grown_flies plan versions more f stay flies = record { of_mode = mode_grown plan versions more f f.run.mode stay flies.of_mode; within = flies.within }

-- ---- its entry at its end

-- a number that passes the test is the budget
length_all : (n budget : ℕ) → (n == budget) ≡ true → n ≡ budget
length_all n budget is = grind (arith, nat_tests)

-- what is kept where two numbers are equal
pub kept_if : {A : Type 0} (a b : ℕ) (x : A) → a ≡ b → (if a == b then Some x else None) ≡ Some x
kept_if a b x is =
    let test : (a == b) ≡ true = grind (arith, nat_tests) in
    rw test refl

-- steps without notes have none in all
pub notes_none : (steps : List PatchedStep) → AllByRecursion (λ (step : PatchedStep). step.notes ≡ []) steps → notes_of (reverse steps) ≡ []
notes_none [] none = refl
notes_none (step ∷ steps) none =
    ap notes_of (reverse-append (step ∷ []) steps)
    ∙ flat_map-append (λ (s : PatchedStep). s.notes) (reverse steps) (step ∷ [])
    ∙ ap (λ (notes : List Note). notes ++ flat_map (λ (s : PatchedStep). s.notes) (step ∷ [])) (notes_none steps none.1)
    ∙ append-nil step.notes
    ∙ none.0

module _ (plan : PlanOf) (i : ℕ) (f : Flight) (within : length f.steps ≤ plan.budget) where
  -- the turns so far, and those left
  count : length f.steps + (plan.budget - length f.steps) ≡ plan.budget
  count = omega arith

  -- ---- of a learn run

  -- its steps are the plain run
  pub plain_whole : (over : Bool) → (over || (length f.steps == plan.budget)) ≡ true → ((turns : ℕ) → steps_from plan.image (length f.steps + turns) (start_of plan f) ≡ steps_of (done_in f) ++ rest_of plan f over turns) → plain_run plan.image f.run.input plan.budget ≡ steps_of (done_in f)
  plain_whole true ended goes = ap (λ (k : ℕ). steps_from plan.image k (start_of plan f)) (sym count) ∙ goes (plan.budget - length f.steps) ∙ append-nil (steps_of (done_in f))
  plain_whole false ended goes =
      ap (λ (k : ℕ). steps_from plan.image k (start_of plan f)) (sym (length_all (length f.steps) plan.budget ended))
      ∙ PlainSteps.made_so_far plan.image (start_of plan f) (length f.steps) (steps_of (done_in f)) f.state goes

  -- the entry says what the steps so far do
  tells_so_far : Tells plan f.run.input (steps_of (done_in f)) (flight_entry plan i f)
  tells_so_far = record {
    end = refl;
    turns = refl;
    output = refl;
    sites = refl;
  }

  -- its entry is of the plain run
  plain_honest : has_ended plan f ≡ true → FliesPlain plan f → IsLearn plan f.run.input (flight_entry plan i f)
  plain_honest ended flies =
      let no_notes : notes_of (done_in f) ≡ [] = notes_none f.steps flies.unpatched in
      record {
        adopted = ap (λ (vs : List ℕ). reverse (joined vs)) flies.none;
        tells = subst (λ (steps : List Step). Tells plan f.run.input steps (flight_entry plan i f)) (sym (plain_whole f.over ended flies.goes)) tells_so_far;
        tally = ap (λ (notes : List Note). tally_of (checks_in notes)) no_notes;
        fired = ap (λ (notes : List Note). fired_of (firings_in notes)) no_notes;
      }

  -- ---- of a live run

  -- a run at its budget has made a block entry with each of its tables
  all_tables : (tables : List Table) (current : Table) (entered : Bool) → length f.steps ≡ plan.budget → IsDue plan f tables current entered → entries_in (done_in f) ≡ length tables
  all_tables tables current true all due = let below = due.1 in absurd (omega arith)
  all_tables tables current false all due = sym due.1

  -- its steps are the run under its tables
  patched_whole : (tables : List Table) (over : Bool) → (over || (length f.steps == plan.budget)) ≡ true → StandsPatched plan f tables over → (turns_under plan f tables plan.budget ≡ Some (done_in f)) × (entries_in (done_in f) ≡ length tables)
  patched_whole tables true ended stands = (ap (turns_under plan f tables) (sym count) ∙ stands.whole (plan.budget - length f.steps), sym stands.all)
  patched_whole tables false ended stands =
      let all = length_all (length f.steps) plan.budget ended in (
        ap (turns_under plan f tables) (sym all) ∙ PatchedSteps.made_so_far plan.image (start_of plan f) tables (length f.steps) (done_in f) f.state f.since f.transferred stands.current stands.goes,
        all_tables tables stands.current f.entered all stands.due,
      )

  -- its entry is of the run under its tables
  patched_honest : (versions : List Table) → has_ended plan f ≡ true → FliesPatched plan versions f → IsLive plan versions f.run.input (flight_entry plan i f)
  patched_honest versions ended flies =
      let whole = patched_whole flies.tables f.over ended flies.stands in
      record {
        tables = flies.tables;
        steps = done_in f;
        joined = joined_is f.versions;
        adopted = subst (λ (vs : List ℕ). AreTables versions vs flies.tables) (sym (joined_written f.versions)) flies.adopted;
        ran = ap (only_if (λ (steps : List PatchedStep). entries_in steps == length flies.tables)) whole.0 ∙ kept_if (entries_in (done_in f)) (length flies.tables) (done_in f) whole.1;
        tells = tells_so_far;
        tally = refl;
        fired = refl;
      }

  -- by its mode
  honest_by : (versions : List Table) (mode : Mode) → has_ended plan f ≡ true → FliesBy mode plan versions f → IsOfMode mode plan versions f.run.input (flight_entry plan i f)
  honest_by versions Learn ended flies = plain_honest ended flies
  honest_by versions Live ended flies = patched_honest versions ended flies

-- the entry of a run that has ended is honest
pub ended_honest : (plan : PlanOf) (versions : List Table) (i : ℕ) (f : Flight) → run_at plan f.number ≡ Some f.run → has_ended plan f ≡ true → Flies plan versions f → IsHonest plan versions (flight_entry plan i f)
ended_honest plan versions i f of_plan ended flies = record {
  run = f.run;
  of_plan = of_plan;
  mode = refl;
  as_it_ran = honest_by plan i f flies.within versions f.run.mode ended flies.of_mode;
}
