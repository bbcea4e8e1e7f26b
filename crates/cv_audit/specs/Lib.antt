pub mod Clauses
pub mod Floors
pub mod Judged
pub mod Rerun
pub mod Rising
pub mod Scripted
pub mod Statements
