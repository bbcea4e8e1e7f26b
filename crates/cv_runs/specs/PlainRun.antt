-- A plain run: the turns from the start state on, up to the first that ends the run, or as many
-- as the budget allows (docs/MACHINE.md, "Run").
use Rattle.std.specs.Prelude.{ℕ, suc, zero, List, [], ◌∷◌}
use Rattle.cv_base.specs.declared.ends.End.{End}
use Rattle.cv_base.specs.declared.ends.End.TheVariants.{Budget}
use Rattle.cv_base.specs.Picture.{Picture}
use Rattle.cv_runs.specs.PlainTurn.{turn_of}
use Rattle.cv_runs.specs.State.{State, Outcome, Next, Ended, start_state}

pub record Step : Type 0 where
  pub before : State
  pub outcome : Outcome

-- a step, and what follows it where the run goes on
abbrev pub stepped : State → Outcome → (State → List Step) → List Step
stepped s (Next next transfer) rest = record { before = s; outcome = Next next transfer } ∷ rest next
stepped s (Ended end) rest = record { before = s; outcome = Ended end } ∷ []

unfoldable pub steps_from : Picture → ℕ → State → List Step
steps_from image zero s = []
steps_from image (suc budget) s = stepped s (turn_of image s) (λ next. steps_from image budget next)

abbrev pub plain_run : Picture → List ℕ → ℕ → List Step
plain_run image input budget = steps_from image budget (start_state image input)

-- how the run ended
abbrev pub end_after : End → Outcome → End
end_after end (Next s transfer) = end
end_after end (Ended e) = e

abbrev pub end_of : List Step → End
end_of [] = Budget
end_of (step ∷ steps) = end_after (end_of steps) step.outcome

-- the state in which the run stopped; `s` where there was no turn
abbrev pub state_after : State → Outcome → State
state_after s (Next next transfer) = next
state_after s (Ended end) = s

abbrev pub state_left : State → List Step → State
state_left s [] = s
state_left s (step ∷ steps) = state_left (state_after s step.outcome) steps
