pub mod Each
pub mod Flying
pub mod InOrder
pub mod RoundStatements
pub mod Statements
pub mod TurnStatements
pub mod VersionStatements
pub mod WorldStands
