pub mod Disk
pub mod DiskLaws
pub mod DiskMemory
pub mod Edge
pub mod Memory
