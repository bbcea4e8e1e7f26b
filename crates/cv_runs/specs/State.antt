-- The state of a run, and the outcome of a turn (docs/MACHINE.md, "State").
use Rattle.std.specs.Prelude.{ℕ, Bool, List, []}
use Rattle.cv_base.specs.declared.TheConstants.{STACK_END}
use Rattle.cv_base.specs.declared.ends.End.{End}
use Rattle.cv_base.specs.declared.ends.End.TheVariants.{Failure}
use Rattle.cv_base.specs.declared.ends.FailureKind.{FailureKind}
use Rattle.cv_base.specs.Picture.{Picture}
use Rattle.cv_base.specs.Registers.{zero_registers, register, with_register}
use Rattle.cv_heap.specs.Heap.{Heap, empty_heap}
use Rattle.cv_mem.specs.Memory.{start_memory}
use Rattle.cv_shadow.specs.declared.frames.Core.{Core}

pub record State : Type 0 where
  pub core : Core  -- pc, registers and frames, the top frame first
  pub memory : ℕ → ℕ  -- the byte at an address, 0 where nothing was written
  pub heap : Heap  -- the live blocks, and the next place
  pub input : List ℕ  -- what was not read yet
  pub output : List ℕ

-- a turn goes on in another state, and says whether it was a transfer; or it ends the run and
-- changes nothing
pub data Outcome : Type 0 where
  Next : State → Bool → Outcome
  Ended : End → Outcome

abbrev pub start_core : Picture → Core
start_core image = record { pc = image.entry; regs = with_register zero_registers 2 STACK_END; frames = [] }

abbrev pub start_state : Picture → List ℕ → State
start_state image input =
    record { core = start_core image; memory = start_memory image.segments; heap = empty_heap; input = input; output = [] }

abbrev pub pc_of : State → ℕ
pc_of s = s.core.pc

-- the value of register r
abbrev pub x : State → ℕ → ℕ
x s r = register s.core.regs r

-- the state at another pc, and with register r written
abbrev pub moved : State → ℕ → State
moved s pc = record s { core = record s.core { pc = pc } }

abbrev pub with_x : State → ℕ → ℕ → State
with_x s r value = record s { core = record s.core { regs = with_register s.core.regs r value } }

abbrev pub failed : State → FailureKind → ℕ → Outcome
failed s kind detail = Ended (Failure (record { kind = kind; pc = s.core.pc }) detail)
