pub mod Faults
pub mod HeapTouched
pub mod Leading
pub mod OutputKept
pub mod Places
pub mod Remains
