-- The limits of inputs and rounds, as a plan has them (docs/FORMATS.md, "Job").
use Rattle.std.specs.Prelude.{◌≡◌, ℕ, Bool, true, ◌≤◌, nat_le, List, length}
use Rattle.std.specs.List.{list_all}
use Rattle.cv_base.specs.declared.plan.Round.{Round}
use Rattle.cv_base.specs.PlanOf.{is_round}

abbrev pub is_input : List ℕ → Bool
is_input input = nat_le (length input) 65536

-- the inputs of a round
pub record IsInputs (inputs : List (List ℕ)) : Type 0 where
  pub some_input : 1 ≤ length inputs
  pub each_input : list_all is_input inputs ≡ true

-- the rounds of a job, but for the number of runs
pub record IsRounds (rounds : List Round) : Type 0 where
  pub some_round : 1 ≤ length rounds
  pub few_rounds : length rounds ≤ 64
  pub each_round : list_all is_round rounds ≡ true
