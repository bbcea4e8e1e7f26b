pub mod Counts
pub mod Laws
pub mod Rule
pub mod Steps
