-- What one more entry changes in the wins and fails of a repair (docs/REPAIR.md, "Scores").
use Rattle.std.specs.Prelude.{◌≡◌, ◌<◌, ◌≤◌, ◌+◌, ◌^◌, ℕ, Bool, ◌&&◌, ◌||◌, if◌then◌else◌, List, length, slice_index_or, Option}
use Rattle.std.specs.List.{All}
use Rattle.cv_base.specs.declared.ends.FailureId.{FailureId}
use Rattle.cv_base.specs.declared.entries.Entry.{Entry}
use Rattle.cv_score.specs.declared.TheConstants.{MOST_CHARGED}
use Rattle.cv_score.specs.declared.scores.Counts.{Counts}
use Rattle.cv_score.specs.Charged.{is_that}
use Rattle.cv_histories.specs.Scores.{has_fired, is_some_failure}
use Rattle.cv_histories.specs.Seen.{failure_at, is_exit, is_failure}

-- repair j of case c won the entry
abbrev pub has_won : ℕ → ℕ → Entry → Bool
has_won c j e = has_fired c j e && is_exit e.end

-- repair j of case c, which has this failure, failed the entry; `there` is the repair of the case
-- in the table of the entry's last adopted version, if any
abbrev pub has_failed : ℕ → FailureId → ℕ → Option ℕ → Entry → Bool
has_failed c id j there e =
    (has_fired c j e && is_some_failure (failure_at e.end)) || (is_failure id (failure_at e.end) && is_that there j)

abbrev pub counted_with : Counts → Bool → Bool → Counts
counted_with n won failed = record {
  wins = if won then n.wins + 1 else n.wins;
  fails = if failed then n.fails + 1 else n.fails;
}

-- the counts of each repair have counted the entry
abbrev pub AllCounted : ℕ → FailureId → Option ℕ → Entry → List Counts → List Counts → Type 0
AllCounted c id there e old new =
    (j : ℕ) (d : Counts) → j < length old → slice_index_or new j d ≡ counted_with (slice_index_or old j d) (has_won c j e) (has_failed c id j there e)

-- each repair has at most this many wins, and fails
abbrev pub AtMost : ℕ → List Counts → Type 0
AtMost most counts = All (λ (n : Counts). (n.wins ≤ most) × (n.fails ≤ most)) counts

-- no repair has more wins or fails than entries were charged, and repairs have numbers of 32 bits
pub record IsKept (charged : ℕ) (counts : List Counts) : Type 0 where
  pub few : charged ≤ MOST_CHARGED
  pub within : AtMost charged counts
  pub numbers : length counts < 2 ^ 32
