-- The tests of an ELF file, in order: each gives its fault where it fails (docs/FORMATS.md, "ELF
-- image").
use Rattle.std.specs.Prelude.{ℕ, Bool, ◌&&◌, ◌||◌, not, ◌==◌, if◌then◌else◌, ◌+◌, ◌*◌, nat_eq, nat_lt, bit_and, List, [], ◌∷◌, ◌++◌, length, map, slice_index, find, Option, Some, None, option_map}
use Rattle.std.specs.Option.{option_or}
use Rattle.std.specs.List.{filter, list_any, starts_with}
use Rattle.cv_base.specs.declared.image.ImageFault.{ImageFault}
use Rattle.cv_base.specs.declared.image.ImageFault.TheVariants as fault
use Rattle.cv_base.specs.Points.{is_point_in}
use Rattle.cv_elf.specs.declared.header.ProgramHeader.{ProgramHeader}
use Rattle.cv_elf.specs.Fields.{e_type, e_machine, e_entry, e_phoff, e_flags, e_phentsize, e_phnum}
use Rattle.cv_elf.specs.Headers.{headers_of, loadable_of, is_dynamic, is_executable, is_writable, is_outside, share_a_byte}
use Rattle.cv_elf.specs.Loading.{text_base_of, text_words}

abbrev pub fault_if : Bool → ImageFault → Option ImageFault
fault_if failed f = if failed then Some f else None

-- the fault that names a header, or two of them
abbrev pub fault_at : (ℕ → ImageFault) → Option ProgramHeader → Option ImageFault
fault_at f found = option_map (λ (h : ProgramHeader). f h.place) found

abbrev pub fault_between : (ℕ → ℕ → ImageFault) → Option (ProgramHeader × ProgramHeader) → Option ImageFault
fault_between f found = option_map (λ (p : ProgramHeader × ProgramHeader). f (p.0).place (p.1).place) found

abbrev pub first_fault : List (Option ImageFault) → Option ImageFault
first_fault [] = None
first_fault (test ∷ later) = option_or test (first_fault later)

-- all pairs of an earlier and a later element, by the earlier and then by the later one
abbrev pub pairs_of : List ProgramHeader → List (ProgramHeader × ProgramHeader)
pairs_of [] = []
pairs_of (h ∷ rest) = map (λ (later : ProgramHeader). (h, later)) rest ++ pairs_of rest

abbrev pub first_two : List ProgramHeader → Option (ProgramHeader × ProgramHeader)
first_two (g ∷ h ∷ rest) = Some (g, h)
first_two _ = None

-- 7F and the letters E, L, F
abbrev pub is_elf : List ℕ → Bool
is_elf bytes = starts_with nat_eq bytes (0x7f ∷ 0x45 ∷ 0x4c ∷ 0x46 ∷ [])

-- 32 bits, little-endian, version 1, an executable for RISC-V, with program headers of 32 bytes
abbrev pub is_rv32_exec : List ℕ → Bool
is_rv32_exec bytes =
    (slice_index bytes 4 == 1) && (slice_index bytes 5 == 1) && (slice_index bytes 6 == 1) && (e_type bytes == 2) && (e_machine bytes == 243) && ((e_phnum bytes == 0) || (e_phentsize bytes == 32))

abbrev pub are_headers_outside : List ℕ → Bool
are_headers_outside bytes = not (e_phnum bytes == 0) && nat_lt (length bytes) (e_phoff bytes + 32 * e_phnum bytes)

unfoldable pub header_tests : List ℕ → List (Option ImageFault)
header_tests bytes =
    fault_if (nat_lt (length bytes) 52) fault.Short
    ∷ fault_if (not (is_elf bytes)) fault.NotElf
    ∷ fault_if (not (is_rv32_exec bytes)) fault.NotRv32Exec
    ∷ fault_if (not (bit_and (e_flags bytes) 1 == 0)) fault.Compressed
    ∷ fault_if (are_headers_outside bytes) fault.HeadersOutside
    ∷ []

unfoldable pub table_tests : List ℕ → List (Option ImageFault)
table_tests bytes =
    fault_if (list_any is_dynamic (headers_of bytes)) fault.Dynamic
    ∷ fault_if (nat_lt 64 (length (loadable_of bytes))) fault.TooManySegments
    ∷ []

unfoldable pub segment_tests : ℕ → List ProgramHeader → List (Option ImageFault)
segment_tests file_length loadable =
    fault_at fault.SegmentOutside (find (is_outside file_length) loadable)
    ∷ fault_at fault.WritableCode (find (λ (h : ProgramHeader). is_writable h && is_executable h) loadable)
    ∷ fault_between fault.SegmentsOverlap (find (λ (p : ProgramHeader × ProgramHeader). share_a_byte p.0 p.1) (pairs_of loadable))
    ∷ fault_between fault.TwoTexts (first_two (filter is_executable loadable))
    ∷ []

unfoldable pub text_tests : List ℕ → ProgramHeader → List (Option ImageFault)
text_tests bytes text =
    fault_if (length (text_words bytes text) == 0) fault.NoText
    ∷ fault_if (nat_lt 65536 (length (text_words bytes text))) fault.TextLong
    ∷ fault_if (not (is_point_in (text_base_of text) (length (text_words bytes text)) (e_entry bytes))) fault.EntryNotText
    ∷ []
