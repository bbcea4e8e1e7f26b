-- The runs of a plan, numbered from 0 through the rounds in order (docs/REPAIR.md, "Rounds").
use Rattle.std.specs.Prelude.{ℕ, ◌+◌, List, [], ◌∷◌, ◌++◌, map, Option, slice_get}
use Rattle.cv_base.specs.declared.plan.Mode.{Mode}
use Rattle.cv_base.specs.declared.plan.Round.{Round}
use Rattle.cv_base.specs.PlanOf.{PlanOf}

pub record Run : Type 0 where
  pub round : ℕ
  pub mode : Mode
  pub input : List ℕ

abbrev pub runs_from : ℕ → List Round → List Run
runs_from n [] = []
runs_from n (r ∷ rs) = map (λ input. record { round = n; mode = r.mode; input = input }) r.inputs ++ runs_from (n + 1) rs

abbrev pub runs : PlanOf → List Run
runs plan = runs_from 0 plan.rounds

abbrev pub run_at : PlanOf → ℕ → Option Run
run_at plan number = slice_get (runs plan) number
