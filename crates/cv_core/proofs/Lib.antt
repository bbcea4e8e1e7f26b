pub mod NextEntry
pub mod Posting
