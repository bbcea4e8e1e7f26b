-- The worked example of docs/FORMATS.md, "ELF image": two segments, a text of 32 words, and what
-- becomes of it with one number changed.
use Rattle.std.proofs.Common.{◌≡◌, ℕ, List, [], ◌∷◌, length, take, set, Result, Ok, Err, refl}
use Rattle.cv_base.specs.declared.image.ImageFault.{ImageFault}
use Rattle.cv_base.specs.declared.image.ImageFault.TheVariants as fault
use Rattle.cv_base.specs.Picture.{Picture}
use Rattle.cv_elf.specs.Fields.{half_at, word_at}
use Rattle.cv_elf.specs.Headers.{header_at, loadable_of}
use Rattle.cv_elf.specs.Tests.{header_tests, table_tests, segment_tests, text_tests}
use Rattle.cv_elf.specs.ElfReading.{elf_reading}

abbrev example : List ℕ
example = 127 ∷ 69 ∷ 76 ∷ 70 ∷ 1 ∷ 1 ∷ 1 ∷ 0 ∷ 0 ∷ 0 ∷ 0 ∷ 0 ∷ 0 ∷ 0 ∷ 0 ∷ 0 ∷ 2 ∷ 0 ∷ 243 ∷ 0 ∷ 0 ∷ 0 ∷ 0 ∷ 0 ∷ 116 ∷ 0 ∷ 1 ∷ 0 ∷ 52 ∷ 0 ∷ 0 ∷ 0 ∷ 0 ∷ 0 ∷ 0 ∷ 0 ∷ 0 ∷ 0 ∷ 0 ∷ 0 ∷ 0 ∷ 0 ∷ 32 ∷ 0 ∷ 2 ∷ 0 ∷ 0 ∷ 0 ∷ 0 ∷ 0 ∷ 0 ∷ 0 ∷ 1 ∷ 0 ∷ 0 ∷ 0 ∷ 0 ∷ 0 ∷ 0 ∷ 0 ∷ 0 ∷ 0 ∷ 1 ∷ 0 ∷ 0 ∷ 0 ∷ 0 ∷ 0 ∷ 128 ∷ 0 ∷ 0 ∷ 0 ∷ 128 ∷ 0 ∷ 0 ∷ 0 ∷ 5 ∷ 0 ∷ 0 ∷ 0 ∷ 0 ∷ 0 ∷ 0 ∷ 0 ∷ 1 ∷ 0 ∷ 0 ∷ 0 ∷ 128 ∷ 0 ∷ 0 ∷ 0 ∷ 128 ∷ 16 ∷ 1 ∷ 0 ∷ 0 ∷ 0 ∷ 0 ∷ 0 ∷ 4 ∷ 0 ∷ 0 ∷ 0 ∷ 16 ∷ 0 ∷ 0 ∷ 0 ∷ 6 ∷ 0 ∷ 0 ∷ 0 ∷ 0 ∷ 0 ∷ 0 ∷ 0 ∷ 147 ∷ 8 ∷ 208 ∷ 5 ∷ 19 ∷ 5 ∷ 0 ∷ 0 ∷ 115 ∷ 0 ∷ 0 ∷ 0 ∷ 0 ∷ 0 ∷ 0 ∷ 0 ∷ []

-- what tells an image from another: its text and its segments' sizes
abbrev told : Result Picture ImageFault → Result (ℕ × ℕ × ℕ × ℕ) ImageFault
told (Ok image) = Ok (image.text_base, length image.words, image.entry, length image.segments)
told (Err f) = Err f

accepted : told (elf_reading example) ≡ Ok (0x10000, 32, 0x10074, 2)
unfolding elf_reading half_at word_at header_at loadable_of header_tests table_tests segment_tests text_tests
accepted = refl

cut : elf_reading (take 51 example) ≡ Err fault.Short
unfolding elf_reading half_at word_at header_at loadable_of header_tests table_tests segment_tests text_tests
cut = refl

compressed : elf_reading (set example 36 1) ≡ Err fault.Compressed
unfolding elf_reading half_at word_at header_at loadable_of header_tests table_tests segment_tests text_tests
compressed = refl

writable_code : elf_reading (set example 108 7) ≡ Err (fault.WritableCode 1)
unfolding elf_reading half_at word_at header_at loadable_of header_tests table_tests segment_tests text_tests
writable_code = refl

entry_between_words : elf_reading (set example 24 118) ≡ Err fault.EntryNotText
unfolding elf_reading half_at word_at header_at loadable_of header_tests table_tests segment_tests text_tests
entry_between_words = refl
