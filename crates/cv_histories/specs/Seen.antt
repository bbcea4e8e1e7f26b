-- A history with, beside each entry, the table of the entry's last adopted version. Histories
-- here have their newest entry first (docs/REPAIR.md, "Histories").
use Rattle.std.specs.Prelude.{ℕ, Bool, true, false, ◌&&◌, ◌==◌, List, [], ◌∷◌, filter, Option, Some, None, unwrap_or, slice_get}
use Rattle.std.specs.List.{flat_map}
use Rattle.cv_base.specs.declared.ends.CrashCause.{CrashCause}
use Rattle.cv_base.specs.declared.ends.CrashCause.TheVariants as crash
use Rattle.cv_base.specs.declared.ends.End.{End}
use Rattle.cv_base.specs.declared.ends.End.TheVariants.{Exit, Failure, Budget}
use Rattle.cv_base.specs.declared.ends.FailureId.{FailureId}
use Rattle.cv_base.specs.declared.ends.FailureKind.{FailureKind}
use Rattle.cv_base.specs.declared.ends.FailureKind.TheVariants.{IllegalTransfer, HeapGuard, ShadowStack, Crash}
use Rattle.cv_base.specs.declared.entries.Adopted.{Adopted}
use Rattle.cv_base.specs.declared.entries.Entry.{Entry}
use Rattle.cv_base.specs.declared.entries.FiredRow.{FiredRow}
use Rattle.cv_base.specs.declared.entries.Observation.{Observation}
use Rattle.cv_base.specs.declared.invariants.Invariant.{Invariant}
use Rattle.cv_base.specs.declared.plan.Mode.{Mode}
use Rattle.cv_base.specs.declared.plan.Mode.TheVariants.{Learn, Live}
use Rattle.cv_base.specs.PlanOf.{PlanOf}
use Rattle.cv_runs.specs.Learned.{learned, observations}
use Rattle.cv_runs.specs.PatchedRun.{Table}
use Rattle.cv_runs.specs.PlainRun.{plain_run}
use Rattle.cv_histories.specs.Runs.{Run, run_at}

pub record Seen : Type 0 where
  pub entry : Entry
  pub last : Table

-- the last version adopted, and its table: the empty one where nothing was adopted
abbrev pub last_version : List Adopted → Option ℕ
last_version [] = None
last_version (a ∷ []) = Some a.version
last_version (a ∷ b ∷ rest) = last_version (b ∷ rest)

abbrev pub table_at : List Table → Option ℕ → Table
table_at versions None = []
table_at versions (Some v) = unwrap_or (slice_get versions v) []

abbrev pub cause_number : CrashCause → ℕ
cause_number crash.IllegalInstruction = 0
cause_number crash.Break = 1
cause_number crash.Deep = 2
cause_number crash.Misaligned = 3
cause_number crash.Unreadable = 4
cause_number crash.Code = 5
cause_number crash.Unwritable = 6

abbrev pub kind_number : FailureKind → ℕ
kind_number IllegalTransfer = 10
kind_number HeapGuard = 11
kind_number ShadowStack = 12
kind_number (Crash cause) = cause_number cause

-- failures are the same where their kind and pc are
abbrev pub is_same_failure : FailureId → FailureId → Bool
is_same_failure a b = (kind_number a.kind == kind_number b.kind) && (a.pc == b.pc)

abbrev pub failure_at : End → Option FailureId
failure_at (Exit code) = None
failure_at (Failure id detail) = Some id
failure_at Budget = None

abbrev pub is_live : Mode → Bool
is_live Learn = false
is_live Live = true

abbrev pub is_exit : End → Bool
is_exit (Exit code) = true
is_exit _ = false

-- the failure of a live entry that failed
abbrev pub live_failure : Entry → Option FailureId
live_failure e = elim (is_live e.mode) [ true ↦ failure_at e.end | false ↦ None ]

abbrev pub is_failure : FailureId → Option FailureId → Bool
is_failure id None = false
is_failure id (Some other) = is_same_failure id other

-- nothing fired
abbrev pub is_unfired : List FiredRow → Bool
is_unfired [] = true
is_unfired _ = false

-- the runs that are learned from: those that ended by exit, of the live runs those alone in which
-- nothing fired
abbrev pub is_observed : Entry → Bool
is_observed e = is_exit e.end && elim (is_live e.mode) [ true ↦ is_unfired e.fired | false ↦ true ]

abbrev pub observed_of : PlanOf → Option Run → List Observation
observed_of plan None = []
observed_of plan (Some run) = observations (plain_run plan.image run.input plan.budget)

abbrev pub observed : PlanOf → List Seen → List Observation
observed plan past =
    flat_map (λ (s : Seen). observed_of plan (run_at plan s.entry.run)) (filter (λ (s : Seen). is_observed s.entry) past)

-- the invariants that are learned of a history, in order
abbrev pub learned_of : PlanOf → List Seen → List Invariant
learned_of plan past = learned plan.image (observed plan past)
