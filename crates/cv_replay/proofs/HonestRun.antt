-- An honest entry's run, told by its turns and its adoptions, is where its steps say.
use Rattle.std.proofs.Common.{◌≡◌, ◌≤◌, ◌<◌, ◌+◌, ◌-◌, ℕ, zero, suc, Bool, true, false, List, [], ◌∷◌, length, drop, Option, Some, None, refl, sym, ap, ◌∙◌, subst, arith}
use Rattle.std.proofs.lemmas.Bool.Decides.{nat_tests}
use Rattle.std.proofs.lemmas.List.{length-map}
use Rattle.std.proofs.lemmas.Option.{get_or_from_slice_get, slice_get-map}
use Rattle.std.specs.Prelude.{◌==◌, ◌||◌, ◌&&◌, not, if◌then◌else◌, map, option_map, option_and_then, slice_get, slice_index_or}
use Rattle.cv_base.specs.declared.entries.Entry.{Entry}
use Rattle.cv_base.specs.declared.plan.Mode.{Mode}
use Rattle.cv_base.specs.declared.plan.Mode.TheVariants.{Learn, Live}
use Rattle.cv_base.specs.Picture.{Picture}
use Rattle.cv_base.specs.PlanOf.{PlanOf}
use Rattle.cv_histories.specs.Flight.{Adoption, Flight, at_entry, begun, entered, entered_by, entered_next, flight_turn, flown, has_ended, may_enter, may_turn, turned, turned_by, turned_next, turned_with}
use Rattle.cv_histories.specs.Honest.{AreTables, IsLearn, IsLive, IsOfMode}
use Rattle.cv_histories.specs.Rows.{written}
use Rattle.cv_histories.specs.Runs.{Run}
use Rattle.cv_histories.specs.Seen.{is_live}
use Rattle.cv_laws.specs.TurnStatements.{NoPlainTurn, PlainTurnFirst, UnderTables}
use Rattle.cv_replay.specs.Said.{state_before, steps_by, steps_in, steps_with, tables_of}
use Rattle.cv_replay.specs.Statements.{HonestIsFlown, StandsBefore, adoption, adoptions_said}
use Rattle.cv_runs.specs.BlockEntries.{is_entry, since_next}
use Rattle.cv_runs.specs.PatchedRun.{PatchedStep, PatchedTurn, Table, entries_in, followed, patched_from, patched_run, patched_step, patched_turn, steps_of}
use Rattle.cv_runs.specs.PlainRun.{Step, plain_run, stepped, steps_from}
use Rattle.cv_runs.specs.PlainTurn.{turn_of}
use Rattle.cv_runs.specs.State.{State, Outcome, Next, Ended, start_state}

-- ---- lists

-- what is left of a list has a first element, and what is left behind it
record FirstLeft {X : Type 0} (xs : List X) (n : ℕ) : Type 0 where
  first : X
  rest : List X
  is : drop n xs ≡ first ∷ rest

first_left : {X : Type 0} (xs : List X) (n : ℕ) → n < length xs → FirstLeft xs n
first_left [] n some = absurd (omega arith)
first_left (x ∷ xs) zero some = record { first = x; rest = xs; is = refl }
first_left (x ∷ xs) (suc n) some =
    let later = first_left xs n (omega arith) in
    record { first = later.first; rest = later.rest; is = later.is }

left_next : {X : Type 0} (xs : List X) (n : ℕ) (x : X) (rest : List X) → drop n xs ≡ x ∷ rest → (slice_get xs n ≡ Some x) × (drop (suc n) xs ≡ rest)
left_next [] zero x rest is = cc
left_next [] (suc n) x rest is = cc
left_next (y ∷ xs) zero x rest is = (cc, cc)
left_next (y ∷ xs) (suc n) x rest is = left_next xs n x rest is

-- nothing is left only at the end
none_left : {X : Type 0} (xs : List X) (n : ℕ) → drop n xs ≡ [] → length xs ≤ n
none_left [] n is = omega arith
none_left (y ∷ xs) zero is = absurd cc
none_left (y ∷ xs) (suc n) is = let rest = none_left xs n is in omega arith

-- as many steps are said
said_many : (steps : List PatchedStep) → length (steps_of steps) ≡ length steps
said_many steps = simp length-map

-- ---- tests

-- a run that no end has stopped has not ended below its budget
not_ended : (over : Bool) (n budget : ℕ) → over ≡ false → n < budget → (over || (n == budget)) ≡ false
not_ended true n budget is below = cc
not_ended false n budget is below = grind (arith, nat_tests)

-- ---- taking a patched run apart

-- a choice that was made
record Chosen (first : Option Table) (run : Table → Option (List PatchedStep)) (steps : List PatchedStep) : Type 0 where
  table : Table
  is : first ≡ Some table
  ran : run table ≡ Some steps

chosen : (first : Option Table) (run : Table → Option (List PatchedStep)) (steps : List PatchedStep) → option_and_then run first ≡ Some steps → Chosen first run steps
chosen None run steps is = absurd cc
chosen (Some t) run steps is = record { table = t; is = refl; ran = is }

-- what follows a step
mapped_apart : (step : PatchedStep) (o : Option (List PatchedStep)) (first : PatchedStep) (rest : List PatchedStep) → option_map (λ (steps : List PatchedStep). step ∷ steps) o ≡ Some (first ∷ rest) → (first ≡ step) × (o ≡ Some rest)
mapped_apart step None first rest is = absurd cc
mapped_apart step (Some steps) first rest is = (cc, cc)

-- it begins with the step
begins_with : (step : PatchedStep) (o : Outcome) (later : State → Bool → Option (List PatchedStep)) (first : PatchedStep) (rest : List PatchedStep) → followed step o later ≡ Some (first ∷ rest) → first ≡ step
begins_with step (Next next transfer) later first rest is = (mapped_apart step (later next transfer) first rest is).0
begins_with step (Ended end) later first rest is = cc

-- ---- a live run

-- before its block entry, if any
record IsBare (plan : PlanOf) (tables : List Table) (steps : List PatchedStep) (turn : ℕ) (f : Flight) : Type 0 where
  live : is_live f.run.mode ≡ true
  on : f.over ≡ false
  fresh : f.entered ≡ false
  count : length f.steps ≡ turn
  left : ℕ
  sum : left + turn ≡ plan.budget
  goes : patched_from plan.image (slice_get tables) left f.state f.since f.transferred (length f.versions) f.table ≡ Some (drop turn steps)

-- the turn, and what follows it
abbrev turn_in : PlanOf → Flight → PatchedTurn
turn_in plan f = patched_turn plan.image f.table f.state

abbrev step_in : PlanOf → Flight → PatchedStep
step_in plan f = patched_step f.state (is_entry f.since f.transferred) (turn_in plan f)

abbrev behind : PlanOf → List Table → ℕ → Flight → State → Bool → Option (List PatchedStep)
behind plan tables left f next transfer =
    patched_from plan.image (slice_get tables) left next (since_next (is_entry f.since f.transferred) f.since) transfer (length f.versions) f.table

-- behind it
record IsReady (plan : PlanOf) (tables : List Table) (steps : List PatchedStep) (turn : ℕ) (f : Flight) : Type 0 where
  live : is_live f.run.mode ≡ true
  on : f.over ≡ false
  count : length f.steps ≡ turn
  entry : (not (is_entry f.since f.transferred) || f.entered) ≡ true
  left : ℕ
  sum : suc left + turn ≡ plan.budget
  goes : followed (step_in plan f) (turn_in plan f).outcome (behind plan tables left f) ≡ Some (drop turn steps)

-- the adoption at the place of a table
record AdoptionAt (adoptions : List Adoption) (k : ℕ) (table : Table) : Type 0 where
  adopted : Adoption
  at : slice_get adoptions k ≡ Some adopted
  same : adopted.table ≡ table

adoption_by : (o : Option Adoption) (table : Table) → option_map (λ (a : Adoption). a.table) o ≡ Some table → (a : Adoption) × (o ≡ Some a) × (a.table ≡ table)
adoption_by None table is = absurd cc
adoption_by (Some a) table is = (a, refl, cc)

adoption_at : (adoptions : List Adoption) (k : ℕ) (table : Table) → slice_get (map (λ (a : Adoption). a.table) adoptions) k ≡ Some table → AdoptionAt adoptions k table
adoption_at adoptions k table is =
    let found = adoption_by (slice_get adoptions k) table (sym (slice_get-map (λ (a : Adoption). a.table) adoptions k) ∙ is) in
    record { adopted = found.0; at = found.1; same = found.2 }

module _ (plan : PlanOf) (adoptions : List Adoption) (steps : List PatchedStep) where
  abbrev tables : List Table
  tables = map (λ (a : Adoption). a.table) adoptions

  -- its tests before its block entry
  may_by : (f : Flight) (turn : ℕ) (enters : Bool) → is_entry f.since f.transferred ≡ enters → is_live f.run.mode ≡ true → f.over ≡ false → f.entered ≡ false → length f.steps < plan.budget → may_enter plan f ≡ enters
  may_by f turn enters is live on fresh below =
      let goes : has_ended plan f ≡ false = not_ended f.over (length f.steps) plan.budget on below in
      ap (λ (b : Bool). not b && (is_live f.run.mode && is_entry f.since f.transferred) && not f.entered) goes
      ∙ ap (λ (b : Bool). true && (b && is_entry f.since f.transferred) && not f.entered) live
      ∙ ap (λ (b : Bool). true && (true && b) && not f.entered) is
      ∙ ap (λ (b : Bool). true && (true && enters) && not b) fresh
      ∙ and_true enters
    where
      and_true : (b : Bool) → (true && (true && b) && not false) ≡ b
      and_true true = refl
      and_true false = refl

  -- the adoption of a block entry is the one of its place
  enters_as : (f : Flight) (o : Option Adoption) (may : Bool) → may_enter plan f ≡ may → slice_get adoptions (length f.versions) ≡ o → entered_next plan adoptions f ≡ elim may [ true ↦ entered_by f o | false ↦ f ]
  enters_as f o may is at =
      ap (λ (b : Bool). elim b as (λ _. Flight) [ true ↦ entered_by f (slice_get adoptions (length f.versions)) | false ↦ f ]) is
      ∙ ap (λ (o : Option Adoption). elim may as (λ _. Flight) [ true ↦ entered_by f o | false ↦ f ]) at

  -- by whether it is a block entry
  ready_by : (f : Flight) (turn : ℕ) (enters : Bool) (left : ℕ) → is_entry f.since f.transferred ≡ enters → is_live f.run.mode ≡ true → f.over ≡ false → f.entered ≡ false → length f.steps ≡ turn → suc left + turn ≡ plan.budget
      → Chosen (if enters then slice_get tables (length f.versions) else Some f.table)
      (λ (t : Table). followed (patched_step f.state enters (patched_turn plan.image t f.state)) (patched_turn plan.image t f.state).outcome
      (λ next transfer. patched_from plan.image (slice_get tables) left next (since_next enters f.since) transfer (if enters then length f.versions + 1 else length f.versions) t)) (drop turn steps)
      → IsReady plan tables steps turn (entered_next plan adoptions f)
  ready_by f turn true left is live on fresh count sum found =
      let may : may_enter plan f ≡ true = may_by f turn true is live on fresh (omega arith) in
      let adopted = adoption_at adoptions (length f.versions) found.table found.is in
      let g : Flight = entered adopted.adopted.version adopted.adopted.table f in
      let ran = λ (b : Bool) (k : ℕ) (t : Table).
      followed (patched_step f.state b (patched_turn plan.image t f.state)) (patched_turn plan.image t f.state).outcome
      (λ next transfer. patched_from plan.image (slice_get tables) left next (since_next b f.since) transfer k t) in
      subst (IsReady plan tables steps turn) (sym (enters_as f (Some adopted.adopted) true may adopted.at))
      (record {
        live = live;
        on = on;
        count = count;
        entry = or_true (not (is_entry f.since f.transferred));
        left = left;
        sum = sum;
        goes = ap (λ (b : Bool). ran b (length g.versions) adopted.adopted.table) is
            ∙ ap (λ (k : ℕ). ran true k adopted.adopted.table) one_more
            ∙ ap (ran true (length f.versions + 1)) adopted.same
            ∙ found.ran;
      })
    where
      or_true : (b : Bool) → (b || true) ≡ true
      or_true true = refl
      or_true false = refl

      one_more : suc (length f.versions) ≡ length f.versions + 1
      one_more = omega arith
  ready_by f turn false left is live on fresh count sum found =
      let may : may_enter plan f ≡ false = may_by f turn false is live on fresh (omega arith) in
      let same : f.table ≡ found.table = cc (found.is) in
      let ran = λ (b : Bool) (t : Table).
      followed (patched_step f.state b (patched_turn plan.image t f.state)) (patched_turn plan.image t f.state).outcome
      (λ next transfer. patched_from plan.image (slice_get tables) left next (since_next b f.since) transfer (length f.versions) t) in
      subst (IsReady plan tables steps turn) (sym (enters_as f (slice_get adoptions (length f.versions)) false may refl))
      (record {
        live = live;
        on = on;
        count = count;
        entry = ap (λ (b : Bool). not b || f.entered) is;
        left = left;
        sum = sum;
        goes = ap (λ (b : Bool). ran b f.table) is ∙ ap (ran false) same ∙ found.ran;
      })

  -- there is a next turn while there are steps
  ready_from : (f : Flight) (turn left : ℕ) → turn < length steps → is_live f.run.mode ≡ true → f.over ≡ false → f.entered ≡ false → length f.steps ≡ turn → left + turn ≡ plan.budget
      → patched_from plan.image (slice_get tables) left f.state f.since f.transferred (length f.versions) f.table ≡ Some (drop turn steps)
      → IsReady plan tables steps turn (entered_next plan adoptions f)
  unfolding patched_from
  ready_from f turn zero some live on fresh count sum goes =
      let none : drop turn steps ≡ [] = cc in
      let past = none_left steps turn none in
      absurd (omega arith)
  ready_from f turn (suc left) some live on fresh count sum goes =
      let enters : Bool = is_entry f.since f.transferred in
      ready_by f turn enters left refl live on fresh count sum
      (chosen (if enters then slice_get tables (length f.versions) else Some f.table)
      (λ (t : Table). followed (patched_step f.state enters (patched_turn plan.image t f.state)) (patched_turn plan.image t f.state).outcome
      (λ next transfer. patched_from plan.image (slice_get tables) left next (since_next enters f.since) transfer (if enters then length f.versions + 1 else length f.versions) t))
      (drop turn steps) goes)

  ready : (f : Flight) (turn : ℕ) → turn < length steps → IsBare plan tables steps turn f → IsReady plan tables steps turn (entered_next plan adoptions f)
  ready f turn some b = ready_from f turn b.left some b.live b.on b.fresh b.count b.sum b.goes

  -- it may take its turn
  may_take : (f : Flight) (turn : ℕ) → IsReady plan tables steps turn f → (has_ended plan f ≡ false) × (may_turn plan f ≡ true)
  may_take f turn r =
      let count = r.count in
      let sum = r.sum in
      let goes : has_ended plan f ≡ false = not_ended f.over (length f.steps) plan.budget r.on (omega arith) in (
        goes,
        ap (λ (b : Bool). not b && (not (at_entry f) || f.entered)) goes
            ∙ ap (λ (b : Bool). not (b && is_entry f.since f.transferred) || f.entered) r.live
            ∙ r.entry,
      )

  -- and its step is the one that is said
  step_is : (f : Flight) (turn : ℕ) → turn < length steps → IsReady plan tables steps turn f → slice_get steps turn ≡ Some (step_in plan f)
  step_is f turn some r =
      let here = first_left steps turn some in
      (left_next steps turn here.first here.rest here.is).0
      ∙ ap Some (begins_with (step_in plan f) (turn_in plan f).outcome (behind plan tables r.left f) here.first here.rest (r.goes ∙ ap Some here.is))

  -- by the outcome of the turn
  turned_bare : (f : Flight) (turn : ℕ) (o : Outcome) → suc turn < length steps → IsReady plan tables steps turn f → (turn_in plan f).outcome ≡ o → IsBare plan tables steps (suc turn) (turned_by f (step_in plan f) o)
  turned_bare f turn (Next next transfer) some r is =
      let sum = r.sum in
      let here = first_left steps turn (omega arith) in
      let later : option_map (λ (steps : List PatchedStep). step_in plan f ∷ steps) (behind plan tables r.left f next transfer) ≡ Some (here.first ∷ here.rest) =
      ap (λ (o : Outcome). followed (step_in plan f) o (behind plan tables r.left f)) (sym is) ∙ r.goes ∙ ap Some here.is in
      record {
        live = r.live;
        on = r.on;
        fresh = refl;
        count = ap suc r.count;
        left = r.left;
        sum = omega arith;
        goes = (mapped_apart (step_in plan f) (behind plan tables r.left f next transfer) here.first here.rest later).1
            ∙ ap Some (sym (left_next steps turn here.first here.rest here.is).1);
      }
  turned_bare f turn (Ended end) some r is =
      let here = first_left steps turn (omega arith) in
      let last : Some (step_in plan f ∷ []) ≡ Some (here.first ∷ here.rest) =
      ap (λ (o : Outcome). followed (step_in plan f) o (behind plan tables r.left f)) (sym is) ∙ r.goes ∙ ap Some here.is in
      let none : drop (suc turn) steps ≡ [] = (left_next steps turn here.first here.rest here.is).1 ∙ cc in
      let past = none_left steps (suc turn) none in
      absurd (omega arith)

  -- after its turn
  turned_ready : (f : Flight) (turn : ℕ) → suc turn < length steps → IsReady plan tables steps turn f → IsBare plan tables steps (suc turn) (turned_next plan f)
  turned_ready f turn some r =
      let may = (may_take f turn r).1 in
      let takes : turned_next plan f ≡ turned plan f = ap (λ (b : Bool). elim b as (λ _. Flight) [ true ↦ turned plan f | false ↦ f ]) may in
      let by : flight_turn plan f ≡ turn_in plan f =
      ap (λ (b : Bool). elim b as (λ _. PatchedTurn) [ true ↦ turn_in plan f | false ↦ record { notes = []; outcome = turn_of plan.image f.state } ]) r.live in
      subst (IsBare plan tables steps (suc turn)) (sym (takes ∙ ap (turned_with f) by))
      (turned_bare f turn (turn_in plan f).outcome some r refl)

  -- so it is before each turn
  live_ready : (start : Flight) → IsBare plan tables steps 0 start → (turn : ℕ) → turn < length steps → IsReady plan tables steps turn (flown plan adoptions start turn)
  unfolding flown
  live_ready start bare zero some = ready start 0 some bare
  live_ready start bare (suc turn) some =
      let before = flown plan adoptions start turn in
      ready (turned_next plan before) (suc turn) some (turned_ready before turn some (live_ready start bare turn (omega arith)))

  live_stands : (start : Flight) → IsBare plan tables steps 0 start → (turn : ℕ) → turn < length (steps_of steps) → StandsBefore plan (steps_of steps) turn (flown plan adoptions start turn)
  live_stands start bare turn some =
      let there : turn < length steps = subst (λ (n : ℕ). turn < n) (said_many steps) some in
      let f = flown plan adoptions start turn in
      let r = live_ready start bare turn there in
      let may = may_take f turn r in
      record {
        goes_on = may.0;
        may = may.1;
        count = r.count;
        state = ap (option_map (λ (step : Step). step.before)) (slice_get-map (λ (step : PatchedStep). record { before = step.before; outcome = step.outcome }) steps turn
            ∙ ap (option_map (λ (step : PatchedStep). record { before = step.before; outcome = step.outcome })) (step_is f turn there r));
      }

-- ---- a learn run

record IsPlain (plan : PlanOf) (steps : List Step) (turn : ℕ) (f : Flight) : Type 0 where
  learns : is_live f.run.mode ≡ false
  on : f.over ≡ false
  count : length f.steps ≡ turn
  left : ℕ
  sum : left + turn ≡ plan.budget
  goes : steps_from plan.image left f.state ≡ drop turn steps

module _ (no_turn : NoPlainTurn) (turn_first : PlainTurnFirst) (plan : PlanOf) (adoptions : List Adoption) (steps : List Step) where
  -- it has no block entry
  no_entry : (f : Flight) → is_live f.run.mode ≡ false → at_entry f ≡ false
  no_entry f learns = ap (λ (b : Bool). b && is_entry f.since f.transferred) learns

  enters_none : (f : Flight) → is_live f.run.mode ≡ false → entered_next plan adoptions f ≡ f
  enters_none f learns =
      ap (λ (b : Bool). elim b as (λ _. Flight) [ true ↦ entered_by f (slice_get adoptions (length f.versions)) | false ↦ f ])
      (ap (λ (b : Bool). not (has_ended plan f) && b && not f.entered) (no_entry f learns) ∙ and_false (not (has_ended plan f)) (not f.entered))
    where
      and_false : (a b : Bool) → (a && false && b) ≡ false
      and_false true b = refl
      and_false false b = refl

  -- it has turns left while there are steps
  some_left : (f : Flight) (turn left : ℕ) → turn < length steps → steps_from plan.image left f.state ≡ drop turn steps → (k : ℕ) × (left ≡ suc k)
  some_left f turn zero some goes =
      let none : drop turn steps ≡ [] = sym goes ∙ no_turn plan.image f.state in
      let past = none_left steps turn none in
      absurd (omega arith)
  some_left f turn (suc left) some goes = (left, refl)

  plain_may : (f : Flight) (turn : ℕ) → turn < length steps → IsPlain plan steps turn f → (has_ended plan f ≡ false) × (may_turn plan f ≡ true)
  plain_may f turn some p =
      let count = p.count in
      let sum = p.sum in
      let left = some_left f turn p.left some p.goes in
      let more = left.1 in
      let goes : has_ended plan f ≡ false = not_ended f.over (length f.steps) plan.budget p.on (omega arith) in (
        goes,
        ap (λ (b : Bool). not b && (not (at_entry f) || f.entered)) goes
            ∙ ap (λ (b : Bool). not b || f.entered) (no_entry f p.learns),
      )

  -- the steps from this turn on
  goes_by : (f : Flight) (turn k : ℕ) (o : Outcome) → turn_of plan.image f.state ≡ o → IsPlain plan steps turn f → (left : ℕ) → steps_from plan.image left f.state ≡ drop turn steps → left ≡ suc k → stepped f.state o (steps_from plan.image k) ≡ drop turn steps
  goes_by f turn k o is p left goes more = sym (turn_first plan.image k f.state o is) ∙ ap (λ (n : ℕ). steps_from plan.image n f.state) (sym more) ∙ goes

  -- they begin with its step
  plain_state : (f : Flight) (turn : ℕ) (o : Outcome) (later : State → List Step) → stepped f.state o later ≡ drop turn steps → state_before steps turn ≡ Some f.state
  plain_state f turn (Next next transfer) later is = ap (option_map (λ (step : Step). step.before)) (left_next steps turn (record { before = f.state; outcome = Next next transfer }) (later next) (sym is)).0
  plain_state f turn (Ended end) later is = ap (option_map (λ (step : Step). step.before)) (left_next steps turn (record { before = f.state; outcome = Ended end }) [] (sym is)).0

  plain_step : Flight → PatchedStep
  plain_step f = patched_step f.state (is_entry f.since f.transferred) (record { notes = []; outcome = turn_of plan.image f.state })

  -- by the outcome of the turn
  plain_by : (f : Flight) (step : PatchedStep) (turn k : ℕ) (o : Outcome) → suc turn < length steps → suc k ≡ plan.budget - turn → turn < plan.budget → IsPlain plan steps turn f → stepped f.state o (steps_from plan.image k) ≡ drop turn steps → IsPlain plan steps (suc turn) (turned_by f step o)
  plain_by f step turn k (Next next transfer) some sum below p goes = record {
    learns = p.learns;
    on = p.on;
    count = ap suc p.count;
    left = k;
    sum = omega arith;
    goes = sym (left_next steps turn (record { before = f.state; outcome = Next next transfer }) (steps_from plan.image k next) (sym goes)).1;
  }
  plain_by f step turn k (Ended end) some sum below p goes =
      let none = (left_next steps turn (record { before = f.state; outcome = Ended end }) [] (sym goes)).1 in
      let past = none_left steps (suc turn) none in
      absurd (omega arith)

  plain_turned : (f : Flight) (turn : ℕ) → suc turn < length steps → IsPlain plan steps turn f → IsPlain plan steps (suc turn) (turned_next plan f)
  plain_turned f turn some p =
      let may = (plain_may f turn (omega arith) p).1 in
      let o = turn_of plan.image f.state in
      let plain : PatchedTurn = record { notes = []; outcome = o } in
      let takes : turned_next plan f ≡ turned plan f = ap (λ (b : Bool). elim b as (λ _. Flight) [ true ↦ turned plan f | false ↦ f ]) may in
      let by : flight_turn plan f ≡ plain =
      ap (λ (b : Bool). elim b as (λ _. PatchedTurn) [ true ↦ patched_turn plan.image f.table f.state | false ↦ plain ]) p.learns in
      let left = some_left f turn p.left (omega arith) p.goes in
      let more = left.1 in
      let sum = p.sum in
      subst (IsPlain plan steps (suc turn)) (sym (takes ∙ ap (turned_with f) by))
      (plain_by f (patched_step f.state (is_entry f.since f.transferred) plain) turn left.0 o some (omega arith) (omega arith) p
      (goes_by f turn left.0 o refl p p.left p.goes left.1))

  plain_flown : (start : Flight) → IsPlain plan steps 0 start → (turn : ℕ) → turn < length steps → IsPlain plan steps turn (flown plan adoptions start turn)
  unfolding flown
  plain_flown start plain zero some = subst (IsPlain plan steps 0) (sym (enters_none start plain.learns)) plain
  plain_flown start plain (suc turn) some =
      let before = flown plan adoptions start turn in
      let now = plain_turned before turn some (plain_flown start plain turn (omega arith)) in
      subst (IsPlain plan steps (suc turn)) (sym (enters_none (turned_next plan before) now.learns)) now

  plain_stands : (start : Flight) → IsPlain plan steps 0 start → (turn : ℕ) → turn < length steps → StandsBefore plan steps turn (flown plan adoptions start turn)
  plain_stands start plain turn some =
      let f = flown plan adoptions start turn in
      let p = plain_flown start plain turn some in
      let may = plain_may f turn some p in
      let left = some_left f turn p.left some p.goes in
      record {
        goes_on = may.0;
        may = may.1;
        count = p.count;
        state = plain_state f turn (turn_of plan.image f.state) (steps_from plan.image left.0) (goes_by f turn left.0 (turn_of plan.image f.state) refl p p.left p.goes left.1);
      }

-- ---- an honest entry

-- what it says: as many steps, some where the budget allows a turn, and where it stands
abbrev Said : PlanOf → List Table → List Step → Entry → Run → Type 0
Said plan versions steps e run =
    (e.turns ≡ length steps)
    × (1 ≤ plan.budget → 0 < length steps)
    × ((turn : ℕ) → turn < length steps → StandsBefore plan steps turn (flown plan (adoptions_said versions e.adopted) (begun plan e.run run) turn))

-- the tables of versions are those at their places
tables_are : (versions : List Table) (vs : List ℕ) (ts : List Table) → AreTables versions vs ts → map (λ (v : ℕ). slice_index_or versions v []) vs ≡ ts
tables_are versions [] [] are = refl
tables_are versions [] (t ∷ ts) are = absurd are
tables_are versions (v ∷ vs) [] are = absurd are
tables_are versions (v ∷ vs) (t ∷ ts) are =
    ap (λ (x : Table). x ∷ map (λ (v : ℕ). slice_index_or versions v []) vs) (get_or_from_slice_get versions v t [] are.0)
    ∙ ap (λ (xs : List Table). t ∷ xs) (tables_are versions vs ts are.1)

-- and those of the adoptions
adopted_tables : (versions : List Table) (vs : List ℕ) → map (λ (a : Adoption). a.table) (map (adoption versions) vs) ≡ map (λ (v : ℕ). slice_index_or versions v []) vs
adopted_tables versions [] = refl
adopted_tables versions (v ∷ vs) = ap (λ (xs : List Table). slice_index_or versions v [] ∷ xs) (adopted_tables versions vs)

-- a run of some turns has a step
some_followed : (step : PatchedStep) (o : Outcome) (later : State → Bool → Option (List PatchedStep)) (steps : List PatchedStep) → followed step o later ≡ Some steps → 0 < length steps
some_followed step o later [] is = absurd (nothing o is)
  where
    mapped_nothing : (o : Option (List PatchedStep)) → option_map (λ (steps : List PatchedStep). step ∷ steps) o ≡ Some [] → ⊥
    mapped_nothing None is = cc
    mapped_nothing (Some steps) is = cc

    nothing : (o : Outcome) → followed step o later ≡ Some [] → ⊥
    nothing (Next next transfer) is = mapped_nothing (later next transfer) is
    nothing (Ended end) is = cc
some_followed step o later (first ∷ rest) is = omega arith

some_patched : (image : Picture) (tables : ℕ → Option Table) (budget : ℕ) (s : State) (steps : List PatchedStep) → 1 ≤ budget → patched_from image tables budget s None false 0 [] ≡ Some steps → 0 < length steps
unfolding patched_from
some_patched image tables zero s steps some ran = absurd (omega arith)
some_patched image tables (suc budget) s steps some ran =
    let run = λ (t : Table). followed (patched_step s true (patched_turn image t s)) (patched_turn image t s).outcome
    (λ next transfer. patched_from image tables budget next (since_next true None) transfer (0 + 1) t) in
    let first = chosen (tables 0) run steps ran in
    some_followed (patched_step s true (patched_turn image first.table s)) (patched_turn image first.table s).outcome
    (λ next transfer. patched_from image tables budget next (since_next true None) transfer (0 + 1) first.table) steps first.ran

some_plain : PlainTurnFirst → (image : Picture) (budget : ℕ) (s : State) → 1 ≤ budget → 0 < length (steps_from image budget s)
some_plain turn_first image zero s some = absurd (omega arith)
some_plain turn_first image (suc budget) s some =
    subst (λ (steps : List Step). 0 < length steps) (sym (turn_first image budget s (turn_of image s) refl)) (some_stepped (turn_of image s))
  where
    some_stepped : (o : Outcome) → 0 < length (stepped s o (steps_from image budget))
    some_stepped (Next next transfer) = omega arith
    some_stepped (Ended end) = omega arith

-- a live entry
live_said : UnderTables → (plan : PlanOf) (versions : List Table) (e : Entry) (run : Run) → run.mode ≡ Live → IsLive plan versions run.input e → Said plan versions (steps_by Live plan versions run.input e.adopted) e run
live_said under_tables plan versions e run lives honest =
    let start = start_state plan.image run.input in
    let input = run.input in
    let adoptions = adoptions_said versions e.adopted in
    let tables : tables_of versions e.adopted ≡ honest.tables = tables_are versions (written e.adopted) honest.tables honest.adopted in
    let ran : patched_run plan.image input plan.budget honest.tables ≡ Some honest.steps = honest.ran in
    let from = (under_tables plan.image input plan.budget honest.tables honest.steps ran).0 in
    let by : map (λ (a : Adoption). a.table) adoptions ≡ honest.tables = adopted_tables versions (written e.adopted) ∙ tables in
    let steps : steps_by Live plan versions input e.adopted ≡ steps_of honest.steps =
    ap (λ (ts : List Table). steps_in (patched_run plan.image input plan.budget ts)) tables ∙ ap steps_in ran in
    let bare : IsBare plan (map (λ (a : Adoption). a.table) adoptions) honest.steps 0 (begun plan e.run run) = record {
      live = ap is_live lives;
      on = refl;
      fresh = refl;
      count = refl;
      left = plan.budget;
      sum = omega arith;
      goes = ap (λ (ts : List Table). patched_from plan.image (slice_get ts) plan.budget start None false 0 []) by ∙ from;
    } in
    subst (λ (steps : List Step). Said plan versions steps e run) (sym steps) (
      honest.tells.turns,
      (λ some. subst (λ (n : ℕ). 0 < n) (sym (said_many honest.steps))
          (some_patched plan.image (slice_get honest.tables) plan.budget start honest.steps some from)),
      live_stands plan adoptions honest.steps (begun plan e.run run) bare,
    )

-- a learn entry
learn_said : NoPlainTurn → PlainTurnFirst → (plan : PlanOf) (versions : List Table) (e : Entry) (run : Run) → run.mode ≡ Learn → IsLearn plan run.input e → Said plan versions (plain_run plan.image run.input plan.budget) e run
learn_said no_turn turn_first plan versions e run learns honest =
    let start = start_state plan.image run.input in
    let steps = steps_from plan.image plan.budget start in
    let plain : IsPlain plan steps 0 (begun plan e.run run) = record {
      learns = ap is_live learns;
      on = refl;
      count = refl;
      left = plan.budget;
      sum = omega arith;
      goes = refl;
    } in (
      honest.tells.turns,
      some_plain turn_first plan.image plan.budget start,
      plain_stands no_turn turn_first plan (adoptions_said versions e.adopted) steps (begun plan e.run run) plain,
    )

-- by the mode
said_by : UnderTables → NoPlainTurn → PlainTurnFirst → (plan : PlanOf) (versions : List Table) (e : Entry) (run : Run) (mode : Mode) → run.mode ≡ mode → IsOfMode mode plan versions run.input e → Said plan versions (steps_by mode plan versions run.input e.adopted) e run
said_by under_tables no_turn turn_first plan versions e run Learn is honest = learn_said no_turn turn_first plan versions e run is honest
said_by under_tables no_turn turn_first plan versions e run Live is honest = live_said under_tables plan versions e run is honest

pub honest_flown : UnderTables → NoPlainTurn → PlainTurnFirst → HonestIsFlown
honest_flown under_tables no_turn turn_first plan versions e run honest of_plan =
    let same : run ≡ honest.run = cc (honest.of_plan, of_plan) in
    let mode : e.mode ≡ run.mode = honest.mode ∙ ap (λ (r : Run). r.mode) (sym same) in
    let as_run : IsOfMode run.mode plan versions run.input e =
    subst (λ (mode : Mode). IsOfMode mode plan versions run.input e) mode (subst (λ (r : Run). IsOfMode e.mode plan versions r.input e) (sym same) honest.as_it_ran) in
    subst (λ (steps : List Step). Said plan versions steps e run) (sym (ap (steps_with plan versions e.adopted) of_plan))
    (said_by under_tables no_turn turn_first plan versions e run run.mode refl as_run)
