pub mod Instances
pub mod Running
pub mod Seats
