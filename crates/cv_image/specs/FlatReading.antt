-- What a flat file is read as (docs/FORMATS.md, "Flat image").
use Rattle.std.specs.Prelude.{ℕ, true, false, not, if◌then◌else◌, ◌+◌, ◌%◌, ◌==◌, nat_lt, List, [], ◌∷◌, length, Result, Ok, Err}
use Rattle.cv_base.specs.declared.image.Segment.{Segment}
use Rattle.cv_base.specs.declared.image.ImageFault.{ImageFault}
use Rattle.cv_base.specs.declared.image.ImageFault.TheVariants as fault
use Rattle.cv_base.specs.Picture.{Picture}
use Rattle.cv_base.specs.WellFormed.{words_of}

-- the executable segment that holds the bytes from an address on: it can be read, and not written
abbrev pub code_segment : ℕ → List ℕ → Segment
code_segment start bytes = record {
  region = record { start = start; end = start + length bytes; read = true; write = false; code = true };
  bytes = bytes;
}

-- the image of the bytes at 00010000, where the run also begins
abbrev pub flat_picture : List ℕ → Picture
flat_picture bytes = record {
  text_base = 0x10000;
  words = words_of bytes;
  segments = code_segment 0x10000 bytes ∷ [];
  entry = 0x10000;
}

unfoldable pub flat_reading : List ℕ → Result Picture ImageFault
flat_reading bytes =
    if length bytes == 0 then Err fault.Empty
    else if not (length bytes % 4 == 0) then Err fault.NotWords
    else if nat_lt 262144 (length bytes) then Err fault.TextLong
    else Ok (flat_picture bytes)
