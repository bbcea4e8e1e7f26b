pub mod Changed
pub mod Left
pub mod ReplayOf
pub mod Said
pub mod Script
pub mod Standing
pub mod Statements
