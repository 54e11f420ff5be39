pub mod Digest
pub mod Kinds
