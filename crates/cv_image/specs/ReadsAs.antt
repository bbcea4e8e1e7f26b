-- What a reader of image files answers, against what the file has to be read as.
use Rattle.std.specs.Prelude.{◌≡◌, Result, Ok, Err, ⊤}
use Rattle.cv_base.specs.declared.image.ImageFault.{ImageFault}
use Rattle.cv_base.specs.declared.image.ImageFail.{ImageFail}
use Rattle.cv_base.specs.declared.image.ImageFail.TheVariants as fail
use Rattle.cv_base.specs.Picture.{Picture}

-- an image is the one that the file holds, a refusal names the file's first fault, and want of
-- memory is free
abbrev pub ReadsAs : Result Picture ImageFault → Result Picture ImageFail → Type 0
ReadsAs reading (Ok image) = reading ≡ Ok image
ReadsAs reading (Err (fail.Refused fault)) = reading ≡ Err fault
ReadsAs reading (Err fail.NoMemory) = ⊤
