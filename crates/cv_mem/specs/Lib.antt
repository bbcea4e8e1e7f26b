pub mod Access
pub mod Memory
pub mod Pages
pub mod SpaceOf
