-- Why a file is no image, as text (docs/FORMATS.md, "Lines on standard error").
use Rattle.std.specs.Prelude.{ℕ, List, ◌++◌, codes}
use Rattle.std.specs.Fmt.{decimal}
use Rattle.cv_base.specs.declared.image.ImageFault.{ImageFault}
use Rattle.cv_base.specs.declared.image.ImageFault.TheVariants as fault

abbrev pub fault_text : ImageFault → List ℕ
fault_text fault.Empty = codes "empty"
fault_text fault.NotWords = codes "not-words"
fault_text fault.TextLong = codes "text-long"
fault_text fault.Short = codes "short"
fault_text fault.NotElf = codes "not-elf"
fault_text fault.NotRv32Exec = codes "not-rv32-exec"
fault_text fault.Compressed = codes "compressed"
fault_text fault.HeadersOutside = codes "headers-outside"
fault_text fault.Dynamic = codes "dynamic"
fault_text fault.TooManySegments = codes "too-many-segments"
fault_text (fault.SegmentOutside i) = codes "segment-outside " ++ decimal i
fault_text (fault.WritableCode i) = codes "writable-code " ++ decimal i
fault_text (fault.SegmentsOverlap i j) = codes "segments-overlap " ++ decimal i ++ codes " " ++ decimal j
fault_text (fault.TwoTexts i j) = codes "two-texts " ++ decimal i ++ codes " " ++ decimal j
fault_text fault.NoText = codes "no-text"
fault_text fault.EntryNotText = codes "entry-not-text"
