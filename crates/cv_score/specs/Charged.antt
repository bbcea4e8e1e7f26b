-- What is kept of the entries charged to the repairs of a case (docs/REPAIR.md, "Scores").
use Rattle.std.specs.Prelude.{◌≡◌, ◌<◌, ℕ, Bool, false, ◌==◌, List, length, Option, Some, None, slice_get}
use Rattle.std.specs.List.{list_any}
use Rattle.cv_base.specs.declared.cases.Case.{Case}
use Rattle.cv_base.specs.declared.ends.FailureId.{FailureId}
use Rattle.cv_score.specs.declared.scores.Counts.{Counts}
use Rattle.cv_histories.specs.Scores.{fails, is_enforce_of, wins}
use Rattle.cv_histories.specs.Seen.{Seen}
use Rattle.cv_runs.specs.PatchedRun.{Table}

-- the wins and fails of each repair of a case with this failure, and how many entries were charged
pub record ScoresOf : Type 0 where
  pub case : ℕ
  pub id : FailureId
  pub charged : ℕ
  pub counts : List Counts

abbrev pub counts_of : ℕ → Case → ℕ → List Seen → Counts
counts_of c case j past = record { wins = wins c j past; fails = fails c case j past }

-- the counts are those of this history
pub record StandsFor (k : ScoresOf) (case : Case) (past : List Seen) : Type 0 where
  pub id : case.id ≡ k.id
  pub charged : length past ≡ k.charged
  pub each : (j : ℕ) → j < length k.counts → slice_get k.counts j ≡ Some (counts_of k.case case j past)

abbrev pub is_that : Option ℕ → ℕ → Bool
is_that None j = false
is_that (Some i) j = i == j

-- the repair of case c that a table has, if any
abbrev pub HasRepair : ℕ → Table → Option ℕ → Type 0
HasRepair c table repair = (j : ℕ) → list_any (is_enforce_of c j) table ≡ is_that repair j
