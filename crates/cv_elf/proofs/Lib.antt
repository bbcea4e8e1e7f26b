mod Examples
pub mod PassedTests
pub mod LoadedImage
pub mod Numbers
pub mod Pairs
pub mod TableSteps
pub mod WordsOf
