pub mod Choosing
pub mod Limits
