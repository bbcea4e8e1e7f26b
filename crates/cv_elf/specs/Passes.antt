-- What a group of tests answers, against the first of its faults.
use Rattle.std.specs.Prelude.{◌≡◌, ◌<◌, ◌≤◌, ℕ, false, List, length, Option, Some, None, Result, Ok, Err, ⊤}
use Rattle.std.specs.List.{All}
use Rattle.std.specs.declared.alloc.Global.{Global}
use Rattle.std.specs.declared.vec.Vec.{Vec}
use Rattle.cv_base.specs.declared.image.ImageFault.{ImageFault}
use Rattle.cv_base.specs.declared.image.ImageFail.{ImageFail}
use Rattle.cv_base.specs.declared.image.ImageFail.TheVariants as fail
use Rattle.cv_base.specs.declared.image.ImageFault.TheVariants as fault
use Rattle.cv_elf.specs.declared.header.ProgramHeader.{ProgramHeader}
use Rattle.cv_elf.specs.Headers.{is_outside}
use Rattle.cv_elf.specs.Tests.{first_fault}

abbrev pub Passes : {A : Type 0} → List (Option ImageFault) → Result A ImageFail → Type 0
Passes tests (Ok _) = first_fault tests ≡ None
Passes tests (Err (fail.Refused fault)) = first_fault tests ≡ Some fault
Passes tests (Err fail.NoMemory) = ⊤

-- the segments, where there are at most 64 of them
abbrev pub Collects : List ProgramHeader → Result (Vec ProgramHeader Global) ImageFail → Type 0
Collects loadable (Ok headers) = (headers.items ≡ loadable) × (length loadable ≤ 64)
Collects loadable (Err (fail.Refused f)) = (f ≡ fault.TooManySegments) × (64 < length loadable)
Collects loadable (Err fail.NoMemory) = ⊤

-- each segment lies inside the file and its range
abbrev pub AllInside : ℕ → List ProgramHeader → Type 0
AllInside file_length headers = All (λ (h : ProgramHeader). is_outside file_length h ≡ false) headers
