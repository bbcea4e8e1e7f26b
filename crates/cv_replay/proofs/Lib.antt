pub mod HonestRows
pub mod HonestRun
pub mod LastChange
pub mod Leaving
pub mod NextEntry
pub mod NextTurn
