pub mod Writing
mod Filling
