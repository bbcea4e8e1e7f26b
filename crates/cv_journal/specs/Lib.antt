pub mod EntryReading
pub mod JournalFaultText
pub mod JournalOf
pub mod LineOf
pub mod Reading
pub mod Statements
pub mod Steps
pub mod Views
