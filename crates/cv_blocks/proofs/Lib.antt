pub mod Bounds
pub mod FromImage
pub mod FromTables
pub mod Starts
pub mod WindowSets
