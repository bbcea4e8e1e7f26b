-- A patched run's steps, one turn after another.
use Rattle.std.proofs.Common.{◌≡◌, ◌+◌, ℕ, suc, zero, Bool, true, false, List, [], ◌∷◌, ◌++◌, length, Option, Some, None, refl, sym, ap, ◌∙◌, append_assoc, arith, length-append}
use Rattle.std.specs.Prelude.{if◌then◌else◌, filter, option_map, option_and_then, slice_get}
use Rattle.std.proofs.lemmas.Iterator.Adapters.{option_map_id}
use Rattle.std.proofs.lemmas.List.{append-nil}
use Rattle.std.proofs.lemmas.List.Elements.{filter-append}
use Rattle.cv_base.specs.declared.ends.End.{End}
use Rattle.cv_base.specs.Picture.{Picture}
use Rattle.cv_runs.specs.BlockEntries.{is_entry, since_next}
use Rattle.cv_runs.specs.PatchedRun.{PatchedStep, Table, entries_in, followed, patched_from, patched_step, patched_turn}
use Rattle.cv_runs.specs.State.{State, Outcome, Next, Ended}
use Rattle.cv_laws.specs.TurnStatements.{PatchedTurnFirst, step_with, table_at}

-- ---- one step behind others

-- a step alone is one block entry or none
more_entries : (enters : Bool) (n : ℕ) (step : PatchedStep) → step.enters ≡ enters → n + entries_in (step ∷ []) ≡ (if enters then n + 1 else n)
more_entries true n step is = grind arith
more_entries false n step is = grind arith

-- a step behind others is one more block entry where it enters
pub entries_in-seam : (done : List PatchedStep) (step : PatchedStep) → entries_in (done ++ step ∷ []) ≡ (if step.enters then entries_in done + 1 else entries_in done)
entries_in-seam done step =
    ap length (filter-append (λ (s : PatchedStep). s.enters) done (step ∷ []))
    ∙ length-append (filter (λ (s : PatchedStep). s.enters) done) (filter (λ (s : PatchedStep). s.enters) (step ∷ []))
    ∙ more_entries step.enters (entries_in done) step refl

-- a step in front of what follows steps stands behind them
through : (done : List PatchedStep) (step : PatchedStep) (o : Option (List PatchedStep))
    → option_map (λ (rest : List PatchedStep). done ++ rest) (option_map (λ (steps : List PatchedStep). step ∷ steps) o)
    ≡ option_map (λ (rest : List PatchedStep). (done ++ step ∷ []) ++ rest) o
through done step None = refl
through done step (Some rest) = ap Some (sym (append_assoc done (step ∷ []) rest))

-- ---- a turn with a table

-- a run is its first turn and what follows it
pub turn_first : PatchedTurnFirst
unfolding patched_from
turn_first image tables k s since transferred made current table o due is =
    let rest = λ (t : Table) (next : State) (transfer : Bool). patched_from image tables k next (since_next (is_entry since transferred) since) transfer (if is_entry since transferred then made + 1 else made) t in
    ap (option_and_then (λ (t : Table). followed (step_with image t s since transferred) (patched_turn image t s).outcome (rest t))) due
    ∙ ap (λ (o : Outcome). followed (step_with image table s since transferred) o (rest table)) is

-- a run of no turns
pub no_turn : (image : Picture) (tables : ℕ → Option Table) (s : State) (since : Option ℕ) (transferred : Bool) (made : ℕ) (table : Table) → patched_from image tables 0 s since transferred made table ≡ Some []
unfolding patched_from
no_turn image tables s since transferred made table = refl

-- a table keeps its place where others come behind
pub in_front : (xs ys : List Table) (k : ℕ) (t : Table) → slice_get xs k ≡ Some t → slice_get (xs ++ ys) k ≡ Some t
in_front [] ys zero t is = cc
in_front [] ys (suc k) t is = cc
in_front (x ∷ xs) ys zero t is = is
in_front (x ∷ xs) ys (suc k) t is = in_front xs ys k t is

-- the table of a turn is the same where others come behind
due_later : (enters : Bool) (tables more : List Table) (made : ℕ) (current table : Table) → table_at (slice_get tables) enters made current ≡ Some table → table_at (slice_get (tables ++ more)) enters made current ≡ Some table
due_later true tables more made current table due = in_front tables more made table due
due_later false tables more made current table due = due

-- the table behind others is at their number
pub at_seam : (tables : List Table) (table : Table) → slice_get (tables ++ table ∷ []) (length tables) ≡ Some table
at_seam [] table = refl
at_seam (t ∷ tables) table = at_seam tables table

-- ---- runs that go on

-- the first turns of a run under tables
abbrev pub first_turns : Picture → State → List Table → ℕ → Option (List PatchedStep)
first_turns image start tables turns = patched_from image (slice_get tables) turns start None false 0 []

-- after the `count` steps `done` a run goes on in the state s, whichever tables come behind these
abbrev pub Grows : Picture → State → List Table → ℕ → List PatchedStep → State → Option ℕ → Bool → Table → Type 0
Grows image start tables count done s since transferred current =
    (turns : ℕ) (more : List Table)
    → first_turns image start (tables ++ more) (count + turns)
    ≡ option_map (λ (rest : List PatchedStep). done ++ rest) (patched_from image (slice_get (tables ++ more)) turns s since transferred (entries_in done) current)

-- before the first turn
pub grows_first : (image : Picture) (start : State) → Grows image start [] 0 [] start None false []
grows_first image start turns more =
    let count : 0 + turns ≡ turns = omega arith in
    ap (first_turns image start more) count ∙ sym (option_map_id (first_turns image start more turns))

-- with one more table
pub grows_entered : (image : Picture) (start : State) (tables : List Table) (table : Table) (count : ℕ) (done : List PatchedStep) (s : State) (since : Option ℕ) (transferred : Bool) (current : Table)
    → Grows image start tables count done s since transferred current → Grows image start (tables ++ table ∷ []) count done s since transferred current
grows_entered image start tables table count done s since transferred current grows turns more =
    rw (append_assoc tables (table ∷ []) more) (grows turns (table ∷ more))

-- the steps so far are those of as many turns
pub made_so_far : (image : Picture) (start : State) (tables : List Table) (count : ℕ) (done : List PatchedStep) (s : State) (since : Option ℕ) (transferred : Bool) (current : Table)
    → Grows image start tables count done s since transferred current → first_turns image start tables count ≡ Some done
made_so_far image start tables count done s since transferred current grows =
    let none : count ≡ count + 0 = omega arith in
    ap (λ (list : List Table). first_turns image start list count) (sym (append-nil tables))
    ∙ ap (first_turns image start (tables ++ [])) none
    ∙ grows 0 []
    ∙ ap (option_map (λ (rest : List PatchedStep). done ++ rest)) (no_turn image (slice_get (tables ++ [])) s since transferred (entries_in done) current)
    ∙ ap Some (append-nil done)

module _ (image : Picture) (start : State) (tables : List Table) (count : ℕ) (done : List PatchedStep) (s : State) (since : Option ℕ) (transferred : Bool) (current table : Table) (grows : Grows image start tables count done s since transferred current) (due : table_at (slice_get tables) (is_entry since transferred) (entries_in done) current ≡ Some table) where
  abbrev step : PatchedStep
  step = step_with image table s since transferred

  abbrev rest_with : List Table → ℕ → ℕ → State → Bool → Option (List PatchedStep)
  rest_with more turns made next transfer = patched_from image (slice_get (tables ++ more)) turns next (since_next (is_entry since transferred) since) transfer made table

  -- its next turn, and what follows it
  one_turn : (turns : ℕ) (more : List Table) (o : Outcome) → (patched_turn image table s).outcome ≡ o
      → first_turns image start (tables ++ more) (suc count + turns)
      ≡ option_map (λ (rest : List PatchedStep). done ++ rest) (followed step o (λ (next : State) (transfer : Bool). rest_with more turns (if is_entry since transferred then entries_in done + 1 else entries_in done) next transfer))
  one_turn turns more o is =
      let one_more : suc count + turns ≡ count + suc turns = omega arith in
      ap (first_turns image start (tables ++ more)) one_more
      ∙ grows (suc turns) more
      ∙ ap (option_map (λ (rest : List PatchedStep). done ++ rest))
      (turn_first image (slice_get (tables ++ more)) turns s since transferred (entries_in done) current table o
      (due_later (is_entry since transferred) tables more (entries_in done) current table due) is)

  -- after a turn that others follow
  pub goes_on : (next : State) (transfer : Bool) → (patched_turn image table s).outcome ≡ Next next transfer
      → Grows image start tables (suc count) (done ++ step ∷ []) next (since_next (is_entry since transferred) since) transfer table
  goes_on next transfer is turns more =
      one_turn turns more (Next next transfer) is
      ∙ through done step (rest_with more turns (if is_entry since transferred then entries_in done + 1 else entries_in done) next transfer)
      ∙ ap (λ (made : ℕ). option_map (λ (rest : List PatchedStep). (done ++ step ∷ []) ++ rest) (rest_with more turns made next transfer)) (sym (entries_in-seam done step))

  -- a turn that ends the run
  pub stops : (turns : ℕ) (end : End) → (patched_turn image table s).outcome ≡ Ended end → first_turns image start tables (suc count + turns) ≡ Some (done ++ step ∷ [])
  stops turns end is =
      ap (λ (list : List Table). first_turns image start list (suc count + turns)) (sym (append-nil tables))
      ∙ one_turn turns [] (Ended end) is
