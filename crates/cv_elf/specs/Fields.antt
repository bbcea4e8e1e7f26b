-- The fields of an ELF header: numbers at places of the file, lowest byte first. Past the end of
-- the file a byte is 0. (docs/FORMATS.md, "ELF image"; System V ABI, 4 "ELF Header")
use Rattle.std.specs.Prelude.{ℕ, ◌+◌, ◌*◌, List, slice_index}

-- the number in two bytes, in four bytes
unfoldable pub half_at : List ℕ → ℕ → ℕ
half_at bytes at = slice_index bytes at + 256 * slice_index bytes (at + 1)

unfoldable pub word_at : List ℕ → ℕ → ℕ
word_at bytes at =
    slice_index bytes at + 256 * slice_index bytes (at + 1) + 65536 * slice_index bytes (at + 2) + 16777216 * slice_index bytes (at + 3)

abbrev pub e_type : List ℕ → ℕ
e_type bytes = half_at bytes 16

abbrev pub e_machine : List ℕ → ℕ
e_machine bytes = half_at bytes 18

abbrev pub e_entry : List ℕ → ℕ
e_entry bytes = word_at bytes 24

abbrev pub e_phoff : List ℕ → ℕ
e_phoff bytes = word_at bytes 28

abbrev pub e_flags : List ℕ → ℕ
e_flags bytes = word_at bytes 36

abbrev pub e_phentsize : List ℕ → ℕ
e_phentsize bytes = half_at bytes 42

abbrev pub e_phnum : List ℕ → ℕ
e_phnum bytes = half_at bytes 44
