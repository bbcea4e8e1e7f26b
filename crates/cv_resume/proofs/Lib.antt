pub mod Growing
pub mod Joined
pub mod Lines
pub mod OneAnswer
pub mod Pieces
pub mod Rounds
pub mod Running
pub mod WholeRounds
