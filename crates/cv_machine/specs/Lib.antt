pub mod Answers
pub mod Held
pub mod Lending
pub mod PlainTurns
pub mod Quick
