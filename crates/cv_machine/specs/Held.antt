-- What a machine holds, and the state that it stands for (docs/MACHINE.md, "State").
use Rattle.std.specs.Prelude.{ℕ, List}
use Rattle.cv_base.specs.Picture.{Picture}
use Rattle.cv_heap.specs.Heap.{Heap}
use Rattle.cv_mem.specs.Memory.{memory_of}
use Rattle.cv_runs.specs.State.{State}
use Rattle.cv_shadow.specs.declared.frames.Core.{Core}

pub record Held : Type 0 where
  pub image : Picture
  pub core : Core
  pub bytes : List ℕ  -- the byte at each address below the end of the stack
  pub heap : Heap
  pub input : List ℕ  -- what was not read yet
  pub output : List ℕ

abbrev pub state_of : Held → State
state_of h = record { core = h.core; memory = memory_of h.bytes; heap = h.heap; input = h.input; output = h.output }
