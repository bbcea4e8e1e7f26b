pub mod Journal
pub mod Kept
pub mod ManagerOf
pub mod MayPost
pub mod Posting
pub mod Progress
pub mod Tables
