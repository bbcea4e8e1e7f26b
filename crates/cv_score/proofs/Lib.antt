pub mod Best
pub mod OneMore
