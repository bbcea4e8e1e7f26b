pub mod FlatReading
pub mod ReadsAs
