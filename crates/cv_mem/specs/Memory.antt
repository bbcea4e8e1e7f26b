-- Memory as a function from address to byte, 0 where nothing was written, and what a load and a
-- store find (docs/MACHINE.md, "Regions"; RISC-V Unprivileged ISA, 2.6 "Load and Store
-- Instructions").
use Rattle.std.specs.Prelude.{ℕ, suc, zero, true, false, not, ◌==◌, ◌+◌, ◌-◌, ◌*◌, ◌/◌, ◌%◌, if◌then◌else◌, List, [], ◌∷◌, length, slice_index, Option, Some, None}
use Rattle.cv_base.specs.declared.image.Region.{Region}
use Rattle.cv_base.specs.declared.image.Segment.{Segment}
use Rattle.cv_base.specs.Regions.{is_within, is_readable, is_writable, is_code, each_address, some_address}
use Rattle.cv_mem.specs.declared.space.MemFault.{MemFault}
use Rattle.cv_mem.specs.declared.space.MemFault.TheVariants.{Misaligned, Unreadable, Code, Unwritable}

-- the memory that a list of bytes from address 0 on stands for
abbrev pub memory_of : List ℕ → ℕ → ℕ
memory_of bytes a = slice_index bytes a

-- the memory at the start of a run: the bytes of the segments
abbrev pub start_memory : List Segment → ℕ → ℕ
start_memory [] a = 0
start_memory (s ∷ rest) a =
    elim (is_within s.region.start s.region.end a) [ true ↦ slice_index s.bytes (a - s.region.start) | false ↦ start_memory rest a ]

-- the memory after bytes were written from `a` on
abbrev pub with_bytes : (ℕ → ℕ) → ℕ → List ℕ → ℕ → ℕ
with_bytes memory a bytes q =
    elim (is_within a (a + length bytes) q) [ true ↦ slice_index bytes (q - a) | false ↦ memory q ]

-- the `count` bytes from `a` on
abbrev pub bytes_at : (ℕ → ℕ) → ℕ → ℕ → List ℕ
bytes_at memory a zero = []
bytes_at memory a (suc count) = memory a ∷ bytes_at memory (a + 1) count

-- the number that bytes spell, and the bytes that spell a number, the lowest byte first
abbrev pub number_of : List ℕ → ℕ
number_of [] = 0
number_of (b ∷ bs) = b + 256 * number_of bs

abbrev pub spelled : ℕ → ℕ → List ℕ
spelled zero value = []
spelled (suc size) value = value % 256 ∷ spelled size (value / 256)

-- the number that a load of 1, 2 or 4 bytes gives
abbrev pub loaded : (ℕ → ℕ) → ℕ → ℕ → ℕ
loaded memory a size = number_of (bytes_at memory a size)

-- the memory after a store of the low 1, 2 or 4 bytes of a value
abbrev pub stored : (ℕ → ℕ) → ℕ → ℕ → ℕ → ℕ → ℕ
stored memory a size value = with_bytes memory a (spelled size value)

abbrev pub load_fault : List Region → ℕ → ℕ → Option MemFault
load_fault regions a size =
    if not (a % size == 0) then Some Misaligned
    else if each_address (is_readable regions) a size then None
    else Some Unreadable

abbrev pub store_fault : List Region → ℕ → ℕ → Option MemFault
store_fault regions a size =
    if not (a % size == 0) then Some Misaligned
    else if some_address (is_code regions) a size then Some Code
    else if each_address (is_writable regions) a size then None
    else Some Unwritable
