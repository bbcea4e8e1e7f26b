pub mod Charged
pub mod Counting
