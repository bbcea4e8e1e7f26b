-- What a replay stands for: a plan, the tables of the versions, an entry, and a turn of the entry's run
-- (docs/REPAIR.md, "Replay").
use Rattle.std.specs.Prelude.{ℕ, List, Option}
use Rattle.cv_base.specs.declared.entries.Entry.{Entry}
use Rattle.cv_base.specs.PlanOf.{PlanOf}
use Rattle.cv_replay.specs.Said.{changed_before, steps_said, value_before}
use Rattle.cv_runs.specs.PatchedRun.{Table}
use Rattle.cv_runs.specs.PlainRun.{Step}
use Rattle.cv_runs.specs.State.{State, x}

pub record ReplayOf : Type 0 where
  pub plan : PlanOf
  pub versions : List Table
  pub entry : Entry
  pub turn : ℕ

-- the steps of its run
abbrev pub said : ReplayOf → List Step
said r = steps_said r.plan r.versions r.entry

-- the value of a register, and the byte at an address
abbrev pub register : ℕ → State → ℕ
register number s = x s number

abbrev pub byte : ℕ → State → ℕ
byte address s = s.memory address

-- the turn since which a part of the state has the value that it has before the replay's turn
abbrev pub since : (State → ℕ) → ReplayOf → Option ℕ
since part r = changed_before (value_before part (said r)) r.turn
