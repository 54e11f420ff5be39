pub mod Blocks
pub mod Holding
pub mod Starting
pub mod Vectors
