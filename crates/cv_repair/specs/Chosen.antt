-- The candidates of a case that were chosen, by their numbers (docs/REPAIR.md, "Repairs").
use Rattle.std.specs.Prelude.{◌≡◌, ℕ, List, map, Some, slice_get}
use Rattle.std.specs.List.{AllByRecursion}
use Rattle.cv_base.specs.declared.invariants.Invariant.{Invariant}
use Rattle.cv_histories.specs.Repairs.{Judged}

-- these candidates have these numbers
pub record AreChosen (candidates : List Invariant) (chosen : List ℕ) (judged : List Judged) : Type 0 where
  pub numbers : map (λ (j : Judged). j.index) judged ≡ chosen
  pub invariants : AllByRecursion (λ (j : Judged). slice_get candidates j.index ≡ Some j.invariant) judged
