-- Since which turn a register or a byte has its value, kept on the way. Conditions of private parts, which
-- no reader has to believe.
use Rattle.std.specs.Prelude.{◌≡◌, ◌<◌, ◌==◌, if◌then◌else◌, ℕ, zero, suc, List, length, Option, Some, None, option_map, slice_get}
use Rattle.cv_replay.specs.ReplayOf.{register}
use Rattle.cv_replay.specs.Said.{changed_before, value_before}
use Rattle.cv_runs.specs.PlainRun.{Step}

-- a cell of 0 says none, and else the turn that is one less
abbrev pub turn_in : ℕ → Option ℕ
turn_in zero = None
turn_in (suc turn) = Some turn

-- a cell with one more turn, where the next one is this
abbrev pub cell_after : ℕ → ℕ → ℕ → ℕ → ℕ
cell_after before after next cell = if before == after then cell else next

-- the cells say it of each register
pub record AreSince (steps : List Step) (turn : ℕ) (cells : List ℕ) : Type 0 where
  pub all : length cells ≡ 32
  pub each : (reg : ℕ) → reg < 32 → option_map turn_in (slice_get cells reg) ≡ Some (changed_before (value_before (register reg) steps) turn)

-- what was found last, or else what was there before
abbrev pub or_before : Option ℕ → Option ℕ → Option ℕ
or_before None before = before
or_before (Some turn) before = Some turn

-- a turn is the last one where the value changes with it
abbrev pub last_noted : ℕ → ℕ → ℕ → Option ℕ → Option ℕ
last_noted before after turn last = if before == after then last else Some turn
