pub mod Spelling
pub mod Parsing
pub mod Behind
pub mod Reading
pub mod Outcomes
pub mod Pieces
pub mod Ahead
