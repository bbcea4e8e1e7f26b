pub mod Inverse
pub mod Meanings
pub mod Placing
pub mod Rows
pub mod Sets
