-- What an ELF file is read as: the first fault of its tests, or the image of its loadable segments
-- (docs/FORMATS.md, "ELF image").
use Rattle.std.specs.Prelude.{ℕ, List, length, find, Option, Some, None, Result, Ok, Err}
use Rattle.cv_base.specs.declared.image.ImageFault.{ImageFault}
use Rattle.cv_base.specs.declared.image.ImageFault.TheVariants as fault
use Rattle.cv_base.specs.Picture.{Picture}
use Rattle.cv_elf.specs.declared.header.ProgramHeader.{ProgramHeader}
use Rattle.cv_elf.specs.Headers.{loadable_of, is_executable}
use Rattle.cv_elf.specs.Loading.{picture_of}
use Rattle.cv_elf.specs.Tests.{first_fault, header_tests, table_tests, segment_tests, text_tests}

-- with the executable segment, where there is one
abbrev pub text_reading : List ℕ → List ProgramHeader → Option ProgramHeader → Result Picture ImageFault
text_reading bytes loadable None = Err fault.NoText
text_reading bytes loadable (Some text) =
    elim (first_fault (text_tests bytes text)) [ Some f ↦ Err f | None ↦ Ok (picture_of bytes loadable text) ]

abbrev pub segments_reading : List ℕ → List ProgramHeader → Result Picture ImageFault
segments_reading bytes loadable =
    elim (first_fault (segment_tests (length bytes) loadable)) [
      | Some f ↦ Err f
      | None ↦ text_reading bytes loadable (find is_executable loadable)
    ]

unfoldable pub elf_reading : List ℕ → Result Picture ImageFault
elf_reading bytes =
    elim (first_fault (header_tests bytes)) [
      | Some f ↦ Err f
      | None ↦ elim (first_fault (table_tests bytes)) [ Some f ↦ Err f | None ↦ segments_reading bytes (loadable_of bytes) ]
    ]
