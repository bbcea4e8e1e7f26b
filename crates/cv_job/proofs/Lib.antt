pub mod Examples
pub mod FirstFault
pub mod Prepended
pub mod Views
