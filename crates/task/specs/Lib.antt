pub mod Settings
pub mod Hashing
pub mod Tasks
pub mod inside
