pub mod Addresses
pub mod BytesAt
pub mod CodeRegions
pub mod Kept
pub mod PutBack
pub mod SegmentsPlaced
pub mod Within
