pub mod Keys
pub mod Ties
pub mod Vectors
pub mod Blake2Vectors
