pub mod Rounds
pub mod Words
pub mod Blocks
pub mod Rows
