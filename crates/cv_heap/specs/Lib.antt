pub mod Found
pub mod Heap
pub mod Kept
