pub mod Failing
pub mod Kept
pub mod KeptFaultText
pub mod KeptRun
pub mod Refusing
pub mod Restored
pub mod Resumed
pub mod Texts
