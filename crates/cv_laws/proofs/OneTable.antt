-- The run under one table at all its block entries: it exists, it is the run under as many copies
-- of the table as it has block entries, and any run under copies of the table is this one.
use Rattle.std.proofs.Common.{◌≡◌, ◌≤◌, ◌<◌, ◌+◌, ℕ, zero, suc, Bool, true, false, List, [], ◌∷◌, length, replicate, Option, Some, None, refl, sym, ap, subst, ◌∙◌, arith}
use Rattle.std.proofs.lemmas.List.{get_or-replicate, length-replicate}
use Rattle.std.proofs.lemmas.Option.{same_Some, slice_get-get_or}
use Rattle.std.specs.Prelude.{◌==◌, if◌then◌else◌, option_map, option_and_then, slice_get}
use Rattle.std.specs.List.{AllByRecursion}
use Rattle.std.proofs.lemmas.Bool.{eq-eqb, eqb-true}
use Rattle.cv_base.specs.Picture.{Picture}
use Rattle.cv_runs.specs.BlockEntries.{is_entry, since_next}
use Rattle.cv_runs.specs.PatchedRun.{PatchedStep, Table, entries_in, followed, only_if, patched_from, patched_run, patched_step, patched_turn, run_under}
use Rattle.cv_runs.specs.State.{State, Outcome, Next, Ended, start_state}
use Rattle.cv_laws.specs.Each.{all_at}
use Rattle.cv_laws.specs.TurnStatements.{UnderTables}

-- ---- it exists

-- what runs under tables has a run wherever its block entries, from the `made`-th on, adopt this
-- table; there are at least so many of them
record HasRun (t : Table) (made least : ℕ) (run : (ℕ → Option Table) → Option (List PatchedStep)) : Type 0 where
  steps : List PatchedStep
  enough : least ≤ entries_in steps
  ran : (tables : ℕ → Option Table) → ((k : ℕ) → made ≤ k → k < made + entries_in steps → tables k ≡ Some t) → run tables ≡ Some steps

-- the block entries of one turn, and those made after it
abbrev one_if : Bool → ℕ
one_if enters = if enters then 1 else 0

abbrev made_next : Bool → ℕ → ℕ
made_next enters made = if enters then made + 1 else made

-- the block entries of a step and those after it
count_with : (enters : Bool) (step : PatchedStep) (steps : List PatchedStep) → step.enters ≡ enters → entries_in (step ∷ steps) ≡ one_if enters + entries_in steps
count_with true step steps is = rw is (omega arith)
count_with false step steps is = rw is (omega arith)

-- a block entry after a turn is one from that turn on
made_on : (enters : Bool) (made k n : ℕ) → made_next enters made ≤ k → k < made_next enters made + n → (made ≤ k) × (k < made + (one_if enters + n))
made_on true made k n low high = (omega arith, omega arith)
made_on false made k n low high = (omega arith, omega arith)

-- with one more step in front
step_has : (t : Table) (enters : Bool) (made : ℕ) (step : PatchedStep) → step.enters ≡ enters → (run : (ℕ → Option Table) → Option (List PatchedStep)) → HasRun t (made_next enters made) 0 run
    → HasRun t made (one_if enters) (λ tables. option_map (λ (steps : List PatchedStep). step ∷ steps) (run tables))
step_has t enters made step is run has =
    let count = count_with enters step has.steps is in
    record {
      steps = step ∷ has.steps;
      enough = omega arith;
      ran = λ tables all. ap (option_map (λ (steps : List PatchedStep). step ∷ steps)) (has.ran tables (λ k low high. let on = made_on enters made k (entries_in has.steps) low high in all k on.0 (omega arith)));
    }

-- by the outcome of the step
followed_has : (t : Table) (enters : Bool) (made : ℕ) (step : PatchedStep) → step.enters ≡ enters → (o : Outcome) (rest : (ℕ → Option Table) → State → Bool → Option (List PatchedStep))
    → ((next : State) (transfer : Bool) → HasRun t (made_next enters made) 0 (λ tables. rest tables next transfer)) → HasRun t made (one_if enters) (λ tables. followed step o (rest tables))
followed_has t enters made step is (Next next transfer) rest has = step_has t enters made step is (λ tables. rest tables next transfer) (has next transfer)
followed_has t enters made step is (Ended end) rest has =
    let count = count_with enters step [] is in
    record { steps = step ∷ []; enough = omega arith; ran = λ tables all. refl }

-- by whether the turn is a block entry
chosen_has : (t table : Table) (enters : Bool) (made : ℕ) (run : Table → (ℕ → Option Table) → Option (List PatchedStep)) → ((x : Table) → HasRun t made (one_if enters) (run x))
    → HasRun t made (one_if enters) (λ tables. option_and_then (λ x. run x tables) (if enters then tables made else Some table))
chosen_has t table true made run has =
    let enough = (has t).enough in
    record {
      steps = (has t).steps;
      enough = (has t).enough;
      ran = λ tables all. ap (option_and_then (λ x. run x tables)) (all made (omega arith) (omega arith)) ∙ (has t).ran tables all;
    }
chosen_has t table false made run has = has table

-- one turn, and what follows it
turn_has : (image : Picture) (t : Table) (budget : ℕ) (s : State) (since : Option ℕ) (transferred : Bool) (made : ℕ) (table : Table)
    → ((next : State) (since : Option ℕ) (transfer : Bool) (made : ℕ) (x : Table) → HasRun t made 0 (λ tables. patched_from image tables budget next since transfer made x))
    → HasRun t made (one_if (is_entry since transferred)) (λ tables. patched_from image tables (suc budget) s since transferred made table)
unfolding patched_from
turn_has image t budget s since transferred made table later =
    let enters : Bool = is_entry since transferred in
    chosen_has t table enters made
    (λ x tables. followed (patched_step s enters (patched_turn image x s)) (patched_turn image x s).outcome
    (λ next transfer. patched_from image tables budget next (since_next enters since) transfer (if enters then made + 1 else made) x))
    (λ x. followed_has t enters made (patched_step s enters (patched_turn image x s)) refl (patched_turn image x s).outcome
    (λ tables next transfer. patched_from image tables budget next (since_next enters since) transfer (if enters then made + 1 else made) x)
    (λ next transfer. later next (since_next enters since) transfer (made_next enters made) x))

-- with no bound on its block entries
any_has : (t : Table) (made least : ℕ) (run : (ℕ → Option Table) → Option (List PatchedStep)) → HasRun t made least run → HasRun t made 0 run
any_has t made least run has = record { steps = has.steps; enough = omega arith; ran = has.ran }

-- from any state
from_has : (image : Picture) (t : Table) (budget : ℕ) (s : State) (since : Option ℕ) (transferred : Bool) (made : ℕ) (table : Table) → HasRun t made 0 (λ tables. patched_from image tables budget s since transferred made table)
unfolding patched_from
from_has image t zero s since transferred made table = record { steps = []; enough = omega arith; ran = λ tables all. refl }
from_has image t (suc budget) s since transferred made table =
    any_has t made (one_if (is_entry since transferred)) (λ tables. patched_from image tables (suc budget) s since transferred made table)
    (turn_has image t budget s since transferred made table (from_has image t budget))

-- from the start: the first turn is a block entry
first_has : (image : Picture) (t : Table) (budget : ℕ) (s : State) → 1 ≤ budget → HasRun t 0 1 (λ tables. patched_from image tables budget s None false 0 [])
first_has image t zero s some = absurd (omega arith)
first_has image t (suc budget) s some = turn_has image t budget s None false 0 [] (from_has image t budget)

-- each of some copies
copies_at : (t : Table) (n k : ℕ) → k < n → slice_get (replicate n t) k ≡ Some t
copies_at t n k below = slice_get-get_or (replicate n t) k t (rw length-replicate below) ∙ ap Some (get_or-replicate n k t t below)

-- a run that passes a test is kept
keeps : (test : List PatchedStep → Bool) (steps : List PatchedStep) → test steps ≡ true → only_if test (Some steps) ≡ Some steps
keeps test steps passes = ap (λ (b : Bool). if b then Some steps else None) passes

-- the run under a table has block entries, and is the run under as many copies of it
pub record RunsUnder (image : Picture) (input : List ℕ) (budget : ℕ) (t : Table) : Type 0 where
  pub steps : List PatchedStep
  pub some : 1 ≤ entries_in steps
  pub under : run_under image input budget t ≡ Some steps
  pub ran : patched_run image input budget (replicate (entries_in steps) t) ≡ Some steps

-- so it is of every table
pub runs_under : (image : Picture) (input : List ℕ) (budget : ℕ) (t : Table) → 1 ≤ budget → RunsUnder image input budget t
runs_under image input budget t some =
    let has = first_has image t budget (start_state image input) some in
    let n = entries_in has.steps in
    let test = λ (steps : List PatchedStep). entries_in steps == length (replicate n t) in
    record {
      steps = has.steps;
      some = has.enough;
      under = has.ran (λ k. Some t) (λ k low high. refl);
      ran = ap (only_if test) (has.ran (slice_get (replicate n t)) (λ k low high. copies_at t n k (omega arith))) ∙ keeps test has.steps (eq-eqb n (length (replicate n t)) (sym (length-replicate n t)));
    }

-- ---- a run under copies of the table is this one

-- where the first is a run, the second is the same one
abbrev Agrees : Option (List PatchedStep) → Option (List PatchedStep) → Type 0
Agrees a b = (steps : List PatchedStep) → a ≡ Some steps → b ≡ Some steps

-- with one more step in front
mapped_agrees : (step : PatchedStep) (a b : Option (List PatchedStep)) → Agrees a b → Agrees (option_map (λ (steps : List PatchedStep). step ∷ steps) a) (option_map (λ (steps : List PatchedStep). step ∷ steps) b)
mapped_agrees step None b same steps ran = absurd cc
mapped_agrees step (Some later) b same steps ran = ap (option_map (λ (steps : List PatchedStep). step ∷ steps)) (same later refl) ∙ ran

-- by the outcome of the step
followed_agrees : (step : PatchedStep) (o : Outcome) (rest other : State → Bool → Option (List PatchedStep)) → ((next : State) (transfer : Bool) → Agrees (rest next transfer) (other next transfer)) → Agrees (followed step o rest) (followed step o other)
followed_agrees step (Next next transfer) rest other same steps ran = mapped_agrees step (rest next transfer) (other next transfer) (same next transfer) steps ran
followed_agrees step (Ended end) rest other same steps ran = ran

-- by whether the turn is a block entry
chosen_agrees : (t : Table) (enters : Bool) (first : Option Table) → ((x : Table) → first ≡ Some x → x ≡ t) → (run other : Table → Option (List PatchedStep)) → ((x : Table) → Agrees (run x) (other x)) → (table : Table) → Agrees (option_and_then run (if enters then first else Some table)) (option_and_then other (if enters then Some t else Some table))
chosen_agrees t true None is run other same table steps ran = absurd cc
chosen_agrees t true (Some x) is run other same table steps ran = same t steps (ap run (sym (is x refl)) ∙ ran)
chosen_agrees t false first is run other same table steps ran = same table steps ran

-- from any state
under_from : (image : Picture) (tables : ℕ → Option Table) (t : Table) → ((k : ℕ) (x : Table) → tables k ≡ Some x → x ≡ t) → (budget : ℕ) (s : State) (since : Option ℕ) (transferred : Bool) (made : ℕ) (table : Table) → Agrees (patched_from image tables budget s since transferred made table) (patched_from image (λ k. Some t) budget s since transferred made table)
unfolding patched_from
under_from image tables t all zero s since transferred made table steps ran = ran
under_from image tables t all (suc budget) s since transferred made table steps ran =
    let enters : Bool = is_entry since transferred in
    chosen_agrees t enters (tables made) (all made)
    (λ x. followed (patched_step s enters (patched_turn image x s)) (patched_turn image x s).outcome
    (λ next transfer. patched_from image tables budget next (since_next enters since) transfer (if enters then made + 1 else made) x))
    (λ x. followed (patched_step s enters (patched_turn image x s)) (patched_turn image x s).outcome
    (λ next transfer. patched_from image (λ k. Some t) budget next (since_next enters since) transfer (if enters then made + 1 else made) x))
    (λ x. followed_agrees (patched_step s enters (patched_turn image x s)) (patched_turn image x s).outcome
    (λ next transfer. patched_from image tables budget next (since_next enters since) transfer (if enters then made + 1 else made) x)
    (λ next transfer. patched_from image (λ k. Some t) budget next (since_next enters since) transfer (if enters then made + 1 else made) x)
    (λ next transfer. under_from image tables t all budget next (since_next enters since) transfer (if enters then made + 1 else made) x))
    table steps ran

-- what is kept passed the test
kept_by : (b : Bool) (a c : List PatchedStep) → (if b then Some a else None) ≡ Some c → (b ≡ true) × (a ≡ c)
kept_by true a c is = (refl, cc)
kept_by false a c is = absurd cc

-- so a run that is kept was there and passed the test
pub kept : (test : List PatchedStep → Bool) (o : Option (List PatchedStep)) (a : List PatchedStep) → only_if test o ≡ Some a → (o ≡ Some a) × (test a ≡ true)
kept test None a is = absurd cc
kept test (Some c) a is =
    let parts = kept_by (test c) c a is in
    (ap Some parts.1, ap test (sym parts.1) ∙ parts.0)

-- so a run under tables has as many block entries
pub under_tables : UnderTables
under_tables image input budget tables steps ran =
    let parts = kept (λ (steps : List PatchedStep). entries_in steps == length tables) (patched_from image (slice_get tables) budget (start_state image input) None false 0 []) steps ran in
    (parts.0, eqb-true (entries_in steps) (length tables) parts.1)

-- the steps are those of the run under the table, with a block entry for each of the tables
pub record IsUnder (image : Picture) (input : List ℕ) (budget : ℕ) (t : Table) (ts : List Table) (steps : List PatchedStep) : Type 0 where
  pub under : run_under image input budget t ≡ Some steps
  pub some : 1 ≤ entries_in steps
  pub count : entries_in steps ≡ length ts

-- so they are where the tables are copies
pub copies_under : (image : Picture) (input : List ℕ) (budget : ℕ) (t : Table) (ts : List Table) (steps : List PatchedStep) → 1 ≤ budget → AllByRecursion (λ (x : Table). x ≡ t) ts → patched_run image input budget ts ≡ Some steps → IsUnder image input budget t ts steps
copies_under image input budget t ts steps some all ran =
    let start = start_state image input in
    let parts = under_tables image input budget ts steps ran in
    let under : run_under image input budget t ≡ Some steps = under_from image (slice_get ts) t (λ k x. all_at (λ (x : Table). x ≡ t) ts k x all) budget start None false 0 [] steps parts.0 in
    let runs = runs_under image input budget t some in
    let same : Some runs.steps ≡ Some steps = sym runs.under ∙ under in
    record {
      under = under;
      some = subst (λ (steps : List PatchedStep). 1 ≤ entries_in steps) (same_Some runs.steps steps same) runs.some;
      count = parts.1;
    }
