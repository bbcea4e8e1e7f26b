-- Wins, fails and scores of a repair over a history (docs/REPAIR.md, "Scores").
use Rattle.std.specs.Prelude.{ℕ, suc, zero, ℤ, pos, ◌-ℤ◌, Bool, true, false, ◌&&◌, ◌||◌, ◌==◌, ◌+◌, if◌then◌else◌, List, length, filter, int_lt, Option, Some, None}
use Rattle.std.specs.List.{list_any}
use Rattle.cv_base.specs.declared.cases.Case.{Case}
use Rattle.cv_base.specs.declared.ends.FailureId.{FailureId}
use Rattle.cv_base.specs.declared.entries.Entry.{Entry}
use Rattle.cv_base.specs.declared.entries.FiredRow.{FiredRow}
use Rattle.cv_base.specs.declared.patches.Patch.{Patch}
use Rattle.cv_base.specs.declared.patches.Patch.TheVariants.{Check, Enforce}
use Rattle.cv_histories.specs.Seen.{Seen, failure_at, is_exit, is_failure}

-- repair j of case c fired in the entry's run
abbrev pub has_fired : ℕ → ℕ → Entry → Bool
has_fired c j e = list_any (λ (r : FiredRow). (r.case == c) && (r.index == j)) e.fired

abbrev pub is_enforce_of : ℕ → ℕ → Patch → Bool
is_enforce_of c j (Check case index invariant) = false
is_enforce_of c j (Enforce case index invariant action) = (case == c) && (index == j)

abbrev pub is_some_failure : Option FailureId → Bool
is_some_failure None = false
is_some_failure (Some id) = true

-- it fired, and the run ended by exit
abbrev pub is_win : ℕ → ℕ → Seen → Bool
is_win c j s = has_fired c j s.entry && is_exit s.entry.end

-- the run failed, and the repair fired; or it failed as the case, while the repair was there
abbrev pub is_fail : ℕ → Case → ℕ → Seen → Bool
is_fail c case j s =
    (has_fired c j s.entry && is_some_failure (failure_at s.entry.end))
    || (is_failure case.id (failure_at s.entry.end) && list_any (is_enforce_of c j) s.last)

abbrev pub wins : ℕ → ℕ → List Seen → ℕ
wins c j past = length (filter (is_win c j) past)

abbrev pub fails : ℕ → Case → ℕ → List Seen → ℕ
fails c case j past = length (filter (is_fail c case j) past)

-- wins less fails, and 1 more without a fail
abbrev pub score_with : ℕ → ℕ → ℤ
score_with wins fails = pos (if fails == 0 then wins + 1 else wins) -ℤ pos fails

abbrev pub score : ℕ → Case → ℕ → List Seen → ℤ
score c case j past = score_with (wins c j past) (fails c case j past)

-- the first of the numbers from j on, of which there are `count`, with the highest score; `top` is the best before them
abbrev pub best_from : (ℕ → ℤ) → ℕ → ℕ → ℕ → ℕ
best_from score_at top j zero = top
best_from score_at top j (suc count) = best_from score_at (if int_lt (score_at top) (score_at j) then j else top) (j + 1) count

-- the first repair of highest score, of `count` repairs
abbrev pub best : ℕ → Case → ℕ → List Seen → ℕ
best c case count past = best_from (λ j. score c case j past) 0 0 count
