pub mod Counts
pub mod HexText
pub mod Lines
pub mod Parts
