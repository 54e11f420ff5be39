pub mod Vectors
pub mod LongWords
pub mod PieceChains
pub mod PieceLemmas
pub mod Lanes
pub mod Tails
pub mod Chunks
