-- What the loadable segments of an ELF file hold (docs/FORMATS.md, "ELF image").
use Rattle.std.specs.Prelude.{ℕ, ◌+◌, ◌-◌, ◌*◌, ◌/◌, List, ◌++◌, map, take, drop, replicate}
use Rattle.cv_base.specs.declared.image.Segment.{Segment}
use Rattle.cv_base.specs.Picture.{Picture}
use Rattle.cv_base.specs.WellFormed.{words_of}
use Rattle.cv_elf.specs.declared.header.ProgramHeader.{ProgramHeader}
use Rattle.cv_elf.specs.Fields.{e_entry}
use Rattle.cv_elf.specs.Headers.{is_executable, is_writable, is_readable}

-- the bytes of a segment that the file holds
abbrev pub file_part : List ℕ → ProgramHeader → List ℕ
file_part bytes h = take h.file_size (drop h.offset bytes)

-- the segment: the file's bytes, and zeros up to its memory size
abbrev pub segment_of : List ℕ → ProgramHeader → Segment
segment_of bytes h = record {
  region = record {
    start = h.address;
    end = h.address + h.memory_size;
    read = is_readable h;
    write = is_writable h;
    code = is_executable h;
  };
  bytes = file_part bytes h ++ replicate (h.memory_size - h.file_size) 0;
}

-- the first multiple of 4 at or above the segment's address
abbrev pub text_base_of : ProgramHeader → ℕ
text_base_of h = (h.address + 3) / 4 * 4

-- the words at multiples of 4 that lie wholly inside the file part
abbrev pub text_words : List ℕ → ProgramHeader → List ℕ
text_words bytes h = words_of (drop (text_base_of h - h.address) (file_part bytes h))

-- the image of some loadable segments, one of which is the text
abbrev pub picture_of : List ℕ → List ProgramHeader → ProgramHeader → Picture
picture_of bytes loadable text = record {
  text_base = text_base_of text;
  words = text_words bytes text;
  segments = map (segment_of bytes) loadable;
  entry = e_entry bytes;
}
