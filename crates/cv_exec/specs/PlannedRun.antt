-- A run of a plan, as it is found by its number.
use Rattle.std.specs.Prelude.{◌≡◌, ℕ, List, Option, IsSomeAnd}
use Rattle.cv_base.specs.declared.plan.Mode.{Mode}
use Rattle.cv_histories.specs.Runs.{Run}

-- it has this mode and this input
abbrev pub IsRunWith : Mode → List ℕ → Option Run → Type 0
IsRunWith mode input run = IsSomeAnd run (λ (r : Run). (r.mode ≡ mode) × (r.input ≡ input))
