pub mod ElfReading
pub mod Fields
pub mod Headers
pub mod Loading
pub mod Tests
pub mod Passes
