-- The program headers of an ELF file (docs/FORMATS.md, "ELF image"; System V ABI, 5 "Program
-- Header"). A header is named by its place among all program headers, from 0.
use Rattle.std.specs.Prelude.{ℕ, Bool, ◌&&◌, ◌||◌, not, ◌==◌, ◌+◌, ◌*◌, nat_lt, bit_and, List, map}
use Rattle.std.specs.List.{filter, range_with_len}
use Rattle.cv_base.specs.declared.TheConstants.{SEGMENTS_START, HEAP_START}
use Rattle.cv_elf.specs.declared.header.ProgramHeader.{ProgramHeader}
use Rattle.cv_elf.specs.Fields.{word_at, e_phoff, e_phnum}

-- the header at a place; each has 32 bytes
unfoldable pub header_at : List ℕ → ℕ → ProgramHeader
header_at bytes place = record {
  place = place;
  kind = word_at bytes (e_phoff bytes + 32 * place);
  offset = word_at bytes (e_phoff bytes + 32 * place + 4);
  address = word_at bytes (e_phoff bytes + 32 * place + 8);
  file_size = word_at bytes (e_phoff bytes + 32 * place + 16);
  memory_size = word_at bytes (e_phoff bytes + 32 * place + 20);
  flags = word_at bytes (e_phoff bytes + 32 * place + 24);
}

abbrev pub headers_of : List ℕ → List ProgramHeader
headers_of bytes = map (header_at bytes) (range_with_len 0 (e_phnum bytes))

-- PT_LOAD, with some memory
abbrev pub is_loadable : ProgramHeader → Bool
is_loadable h = (h.kind == 1) && not (h.memory_size == 0)

-- PT_DYNAMIC or PT_INTERP
abbrev pub is_dynamic : ProgramHeader → Bool
is_dynamic h = (h.kind == 2) || (h.kind == 3)

-- the loadable segments, in the order of the program headers
unfoldable pub loadable_of : List ℕ → List ProgramHeader
loadable_of bytes = filter is_loadable (headers_of bytes)

-- PF_X, PF_W and PF_R
abbrev pub is_executable : ProgramHeader → Bool
is_executable h = not (bit_and h.flags 1 == 0)

abbrev pub is_writable : ProgramHeader → Bool
is_writable h = not (bit_and h.flags 2 == 0)

abbrev pub is_readable : ProgramHeader → Bool
is_readable h = not (bit_and h.flags 4 == 0)

-- a segment reaches past the file's end, past its own memory or past the range for segments
abbrev pub is_outside : ℕ → ProgramHeader → Bool
is_outside file_length h =
    nat_lt file_length (h.offset + h.file_size) || nat_lt h.memory_size h.file_size || nat_lt h.address SEGMENTS_START || nat_lt HEAP_START (h.address + h.memory_size)

abbrev pub share_a_byte : ProgramHeader → ProgramHeader → Bool
share_a_byte g h = nat_lt g.address (h.address + h.memory_size) && nat_lt h.address (g.address + g.memory_size)
