pub mod Events
pub mod InstanceOf
pub mod Stands
pub mod WorldOf
