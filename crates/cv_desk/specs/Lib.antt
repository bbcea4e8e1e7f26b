pub mod Openings
pub mod Passes
pub mod Standing
