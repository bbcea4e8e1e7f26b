pub mod Chosen
pub mod Numbered
