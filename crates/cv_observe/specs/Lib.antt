pub mod Above
pub mod AtPoint
pub mod Kept
pub mod Learning
pub mod Plain
pub mod StandsFor
pub mod Statements
pub mod Words
