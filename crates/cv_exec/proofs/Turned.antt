-- A run in flight through one more turn: what its steps leave, and how it ends.
use Rattle.std.proofs.Common.{◌≡◌, ◌<◌, ◌≤◌, ◌-◌, ℕ, suc, Bool, true, false, List, [], ◌∷◌, ◌++◌, length, Option, Some, None, refl, sym, ap, ◌∙◌, append_assoc, arith}
use Rattle.std.specs.Prelude.{◌==◌, ◌||◌, if◌then◌else◌}
use Rattle.std.proofs.lemmas.Bool.{eq-eqb}
use Rattle.std.proofs.lemmas.Bool.Decides.{nat_tests}
use Rattle.std.proofs.lemmas.List.{map-append, reverse-append}
use Rattle.cv_base.specs.declared.ends.End.{End}
use Rattle.cv_base.specs.declared.ends.End.TheVariants.{Failure, Budget}
use Rattle.cv_base.specs.PlanOf.{PlanOf}
use Rattle.cv_exec.specs.InFlightStands.{EndedSo, GoesOn, Leaves, StandsBy}
use Rattle.cv_exec.specs.RunEnds.{end_sites, end_with}
use Rattle.cv_histories.specs.Flight.{Flight, done_in, has_ended, turned_by}
use Rattle.cv_histories.specs.Rows.{last_sites, sites_at_end, sites_of}
use Rattle.cv_machine.specs.Answers.{left_by}
use Rattle.cv_machine.specs.Held.{Held, state_of}
use Rattle.cv_runs.specs.PatchedRun.{PatchedStep, steps_of}
use Rattle.cv_runs.specs.PlainRun.{Step, end_after, end_of, state_after, state_left}
use Rattle.cv_runs.specs.State.{State, Outcome, Next, Ended, start_state}

-- ---- one step behind others

abbrev plain_of : PatchedStep → Step
plain_of step = record { before = step.before; outcome = step.outcome }

pub done_more : (f : Flight) (step : PatchedStep) (o : Outcome) → done_in (turned_by f step o) ≡ done_in f ++ step ∷ []
done_more f step (Next next transfer) = reverse-append (step ∷ []) f.steps
done_more f step (Ended end) = reverse-append (step ∷ []) f.steps

pub steps_more : (f : Flight) (step : PatchedStep) (o : Outcome) → steps_of (done_in (turned_by f step o)) ≡ steps_of (done_in f) ++ plain_of step ∷ []
steps_more f step o = ap steps_of (done_more f step o) ∙ map-append plain_of (done_in f) (step ∷ [])

state_left-append : (start : State) (done rest : List Step) → state_left start (done ++ rest) ≡ state_left (state_left start done) rest
state_left-append start [] rest = refl
state_left-append start (step ∷ done) rest = state_left-append (state_after start step.outcome) done rest

last_sites-seam : (done : List Step) (step : Step) → last_sites (done ++ step ∷ []) ≡ sites_of step.before
last_sites-seam [] step = refl
last_sites-seam (a ∷ []) step = refl
last_sites-seam (a ∷ b ∷ done) step = last_sites-seam (b ∷ done) step

sites_by : (end : End) (done : List Step) (step : Step) → sites_at_end end (done ++ step ∷ []) ≡ end_sites end step.before.core
sites_by (Failure id detail) done step = last_sites-seam done step
sites_by _ done step = refl

-- ---- before the first turn

-- a flight that has not ended has turns left
not_over : (over last : Bool) → (over || last) ≡ false → (over ≡ false) × (last ≡ false)
not_over true last is = cc
not_over false last is = (refl, is)

below_by : (n budget : ℕ) (last : Bool) → (n == budget) ≡ last → last ≡ false → n ≤ budget → n < budget
below_by n budget true test is within = cc
below_by n budget false test is within = grind (arith, nat_tests)

pub going : (plan : PlanOf) (f : Flight) → has_ended plan f ≡ false → length f.steps ≤ plan.budget → (f.over ≡ false) × (length f.steps < plan.budget)
going plan f on within =
    let parts = not_over f.over (length f.steps == plan.budget) on in
    (parts.0, below_by (length f.steps) plan.budget (length f.steps == plan.budget) refl parts.1 within)

-- ---- after a turn

module _ (plan : PlanOf) (f : Flight) (step : PatchedStep) (leaves : Leaves plan f) (on : f.over ≡ false) (below : length f.steps < plan.budget) (before : step.before ≡ f.state) where
  abbrev start : State
  start = start_state plan.image f.run.input

  state_more : (o : Outcome) → step.outcome ≡ o → state_left start (steps_of (done_in (turned_by f step o))) ≡ state_after f.state o
  state_more o is =
      ap (state_left start) (steps_more f step o)
      ∙ state_left-append start (steps_of (done_in f)) (plain_of step ∷ [])
      ∙ ap (λ (s : State). state_after s step.outcome) leaves.state
      ∙ ap (state_after f.state) is

  ends_more : (o : Outcome) → step.outcome ≡ o → (rest : List Step) → end_of (steps_of (done_in (turned_by f step o)) ++ rest) ≡ end_after (end_of rest) o
  ends_more o is rest =
      ap (λ (l : List Step). end_of (l ++ rest)) (steps_more f step o)
      ∙ ap end_of (append_assoc (steps_of (done_in f)) (plain_of step ∷ []) rest)
      ∙ leaves.ends on (plain_of step ∷ rest)
      ∙ ap (end_after (end_of rest)) is

  end_is : (o : Outcome) → step.outcome ≡ o → end_of (steps_of (done_in (turned_by f step o))) ≡ end_after Budget o
  end_is o is = ap end_of (steps_more f step o) ∙ leaves.ends on (plain_of step ∷ []) ∙ ap (end_after Budget) is

  pub leaves_after : (o : Outcome) → step.outcome ≡ o → Leaves plan (turned_by f step o)
  leaves_after (Next next transfer) is = record {
    within = below;
    state = state_more (Next next transfer) is;
    ends = λ over rest. ends_more (Next next transfer) is rest;
  }
  leaves_after (Ended end) is = record {
    within = below;
    state = state_more (Ended end) is;
    ends = λ over rest. absurd cc;
  }

  -- it ended the run
  ended_so : (m : Held) (s : State) (end : End) → step.outcome ≡ Ended end → state_of m ≡ s → s.output ≡ f.state.output → end_sites end f.state.core ≡ end_sites end s.core → EndedSo plan m (turned_by f step (Ended end)) end
  ended_so m s end is state output sites =
      let ends : end_of (steps_of (done_in (turned_by f step (Ended end)))) ≡ end = end_is (Ended end) is in
      record {
        over = refl;
        ends = ends;
        output = ap (λ (x : State). x.output) (state_more (Ended end) is) ∙ sym output ∙ ap (λ (x : State). x.output) (sym state);
        sites =
            ap (λ (e : End). sites_at_end e (steps_of (done_in (turned_by f step (Ended end))))) ends
            ∙ ap (sites_at_end end) (steps_more f step (Ended end))
            ∙ sites_by end (steps_of (done_in f)) (plain_of step)
            ∙ ap (λ (x : State). end_sites end x.core) before
            ∙ sites
            ∙ ap (λ (x : State). end_sites end x.core) (sym state);
      }

  module _ (m : Held) (next : State) (transfer : Bool) (is : step.outcome ≡ Next next transfer) (state : state_of m ≡ next) where
    -- it was the last turn that the budget allows
    over_budget : suc (length f.steps) ≡ plan.budget → EndedSo plan m (turned_by f step (Next next transfer)) Budget
    over_budget all =
        let ends : end_of (steps_of (done_in (turned_by f step (Next next transfer)))) ≡ Budget = end_is (Next next transfer) is in
        record {
          over = ap (λ (b : Bool). b || (suc (length f.steps) == plan.budget)) on ∙ eq-eqb (suc (length f.steps)) plan.budget all;
          ends = ends;
          output = ap (λ (x : State). x.output) (state_more (Next next transfer) is) ∙ ap (λ (x : State). x.output) (sym state);
          sites = ap (λ (e : End). sites_at_end e (steps_of (done_in (turned_by f step (Next next transfer))))) ends;
        }

    -- others follow
    goes_further : (suc (length f.steps) == plan.budget) ≡ false → GoesOn plan m (turned_by f step (Next next transfer))
    goes_further more = record { on = ap (λ (b : Bool). b || (suc (length f.steps) == plan.budget)) on ∙ more; state = state }

    by_test : (left : ℕ) (end : Option End) (last : Bool) → left ≡ plan.budget - length f.steps → (left == 1) ≡ last → end ≡ (if last then Some Budget else None) → StandsBy plan m (turned_by f step (Next next transfer)) end
    by_test left end true all test ends =
        let one : left ≡ 1 = grind (arith, nat_tests) in
        rw ends (over_budget (omega arith))
    by_test left end false all test ends =
        let more : (suc (length f.steps) == plan.budget) ≡ false = grind (arith, nat_tests) in
        rw ends (goes_further more)

  -- the machine stands in the state behind the turn, or where the turn ended the run in the state s
  -- behind its patches
  pub stands_after : (m : Held) (s : State) (left : ℕ) (end : Option End) (o : Outcome) → step.outcome ≡ o → state_of m ≡ left_by o s → s.output ≡ f.state.output → ((e : End) → o ≡ Ended e → end_sites e f.state.core ≡ end_sites e s.core)
      → left ≡ plan.budget - length f.steps → end ≡ end_with left o → StandsBy plan m (turned_by f step o) end
  stands_after m s left end (Next next transfer) is state output sites all ends = by_test m next transfer is state left end (left == 1) all refl ends
  stands_after m s left end (Ended e) is state output sites all ends = rw ends (ended_so m s e is state output (sites e refl))
