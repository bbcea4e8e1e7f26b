pub mod WordsOf
pub mod FlatImage
