-- The memory of a run: the bytes from address 0 on, the regions of the segments, and the bytes at
-- the start of the run (docs/MACHINE.md, "Regions").
use Rattle.std.specs.Prelude.{◌≡◌, ℕ, Bool, true, ◌||◌, ◌==◌, nat_le, IsTrue, List, length, Some, None, Result, Ok, Err}
use Rattle.std.specs.List.{list_all}
use Rattle.cv_base.specs.declared.TheConstants.{HEAP_START}
use Rattle.cv_base.specs.declared.image.Region.{Region}
use Rattle.cv_mem.specs.declared.space.MemFault.{MemFault}
use Rattle.cv_mem.specs.Memory.{memory_of, loaded, load_fault}

-- the number of bytes: the heap and the stack end here
unfoldable pub memory_size : ℕ
memory_size = 0x800000

pub record SpaceOf : Type 0 where
  pub bytes : List ℕ
  pub regions : List Region
  pub start : List ℕ  -- up to the end of the last segment; 0 from there on

-- the regions of segments lie below the heap
abbrev pub are_low : List Region → Bool
are_low regions = list_all (λ (r : Region). nat_le r.end HEAP_START) regions

pub record IsSpace (space : SpaceOf) : Type 0 where
  pub whole : length space.bytes ≡ memory_size
  pub low : are_low space.regions ≡ true

-- the sizes of an access in bytes
abbrev pub IsSize : ℕ → Type 0
IsSize size = IsTrue ((size == 1) || (size == 2) || (size == 4))

-- what a load gives: the number in memory, or why it is refused
abbrev pub load_of : SpaceOf → ℕ → ℕ → Result ℕ MemFault
load_of space a size =
    elim (load_fault space.regions a size) [ None ↦ Ok (loaded (memory_of space.bytes) a size) | Some fault ↦ Err fault ]
