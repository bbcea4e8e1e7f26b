-- The repairs of one candidate, given by its number.
use Rattle.std.specs.Prelude.{ℕ, List, [], map, Option, Some, None}
use Rattle.cv_base.specs.declared.cases.Repair.{Repair}
use Rattle.cv_base.specs.declared.invariants.Invariant.{Invariant}
use Rattle.cv_base.specs.declared.patches.Action.{Action}
use Rattle.cv_base.specs.Picture.{Picture}
use Rattle.cv_histories.specs.Repairs.{actions_of}

-- actions for the candidate with this number
abbrev pub repairs_by : ℕ → List Action → List Repair
repairs_by number actions = map (λ action. record { candidate = number; action = action }) actions

-- the repairs of the candidate that has the number, if there is one
abbrev pub repairs_at : Picture → List Invariant → ℕ → Option Invariant → List Repair
repairs_at image candidates number None = []
repairs_at image candidates number (Some k) = repairs_by number (actions_of image candidates k)
