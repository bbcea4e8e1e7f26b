-- Checked failures of a case, and the classes of its candidates (docs/REPAIR.md, "Classes").
use Rattle.std.specs.Prelude.{ℕ, Bool, false, not, ◌&&◌, ◌==◌, nat_le, nat_lt, if◌then◌else◌, List, length, filter, find, reverse, take, Option, Some, None}
use Rattle.std.specs.List.{list_all, list_any}
use Rattle.cv_base.specs.declared.cases.Case.{Case}
use Rattle.cv_base.specs.declared.cases.Class.{Class}
use Rattle.cv_base.specs.declared.cases.Class.TheVariants.{Highly, Moderately, Slightly, Not}
use Rattle.cv_base.specs.declared.entries.TallyRow.{TallyRow}
use Rattle.cv_base.specs.declared.patches.Patch.{Patch}
use Rattle.cv_base.specs.declared.patches.Patch.TheVariants.{Check, Enforce}
use Rattle.cv_base.specs.PlanOf.{PlanOf}
use Rattle.cv_histories.specs.Seen.{Seen, is_failure, live_failure}

abbrev pub is_check_of : ℕ → Patch → Bool
is_check_of c (Check case index invariant) = case == c
is_check_of c (Enforce case index invariant action) = false

-- a live entry that failed as the case, under a table that has the case's checks
abbrev pub is_checked_failure : ℕ → Case → Seen → Bool
is_checked_failure c case s = is_failure case.id (live_failure s.entry) && list_any (is_check_of c) s.last

-- the checked failures of a case, the newest first
abbrev pub checked_failures : ℕ → Case → List Seen → List Seen
checked_failures c case past = filter (is_checked_failure c case) past

-- the first of them, as many as the plan's checks, oldest first
abbrev pub first_checked : PlanOf → ℕ → Case → List Seen → List Seen
first_checked plan c case past = take plan.checks (reverse (checked_failures c case past))

abbrev pub is_decided : PlanOf → ℕ → Case → List Seen → Bool
is_decided plan c case past = nat_le plan.checks (length (checked_failures c case past))

-- the row of a candidate; None where it was not checked
abbrev pub row_of : ℕ → ℕ → Seen → Option TallyRow
row_of c x s = find (λ (r : TallyRow). (r.case == c) && (r.index == x)) s.entry.tally

abbrev pub violations_of : Option TallyRow → ℕ
violations_of None = 0
violations_of (Some r) = r.violations

abbrev pub last_failed : Option TallyRow → Bool
last_failed None = false
last_failed (Some r) = not r.last_held

-- the class of candidate x of case c over some checked failures
abbrev pub class_over : ℕ → ℕ → List Seen → Class
class_over c x seen =
    if list_all (λ s. last_failed (row_of c x s) && (violations_of (row_of c x s) == 1)) seen then Highly
    else if list_all (λ s. last_failed (row_of c x s)) seen && list_any (λ s. nat_lt 1 (violations_of (row_of c x s))) seen then Moderately
    else if list_any (λ s. nat_lt 0 (violations_of (row_of c x s))) seen then Slightly
    else Not

-- a candidate has a class from the case's last checked failure on that counts
abbrev pub class_of : PlanOf → ℕ → Case → ℕ → List Seen → Option Class
class_of plan c case x past =
    if is_decided plan c case past then Some (class_over c x (first_checked plan c case past)) else None
