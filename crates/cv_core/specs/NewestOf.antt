-- Tables by version, of which the newest is adopted at every block entry (docs/REPAIR.md, "The
-- serial history").
use Rattle.std.specs.Prelude.{◌≡◌, ℕ, ◌+◌, List, length}
use Rattle.cv_runs.specs.PatchedRun.{Table}

pub record NewestOf : Type 0 where
  pub newest : ℕ
  pub tables : List Table

abbrev pub IsNewest : NewestOf → Type 0
IsNewest n = length n.tables ≡ n.newest + 1
