-- What a failure of the disk is told as.
use Rattle.cv_edge.specs.declared.disk.DiskFail.{DiskFail}
use Rattle.cv_edge.specs.declared.disk.DiskFail.TheVariants.{Failed, NoMemory}
use Rattle.cv_keep.specs.declared.errors.KeepFail.{KeepFail}
use Rattle.cv_keep.specs.declared.errors.KeepFail.TheVariants as keep

abbrev pub told_of : DiskFail → KeepFail
told_of Failed = keep.DiskFault
told_of NoMemory = keep.NoMemory
